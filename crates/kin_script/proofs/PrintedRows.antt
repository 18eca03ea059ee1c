-- The printed text of failures, tried on worked lines by computing.
use Rattle.std.proofs.Common.{◌≡◌, refl, [], ◌∷◌, pos, true, None, Some}
use Rattle.std.specs.Prelude.{codes}
use Rattle.std.specs.Fmt.{digits}
use lib.IntN.{neg_ℤ}
use Rattle.kin_algebra.specs.declared.sign.Sign.{Sign}
use Rattle.kin_algebra.specs.declared.sign.Sign.TheVariants.{Minus, Zero, Plus}
use Rattle.kin_num.specs.declared.instant.Shape.TheVariants.{Ratio, Root}
use Rattle.kin_num.specs.declared.instant.Phase.TheVariants.{At, After}
use Rattle.kin_motion.specs.declared.form.Form.{Form}
use Rattle.kin_motion.specs.declared.form.Form.TheVariants.{Line, Turn, Slope, Dist}
use Rattle.kin_motion.specs.Journal.{Failure}
use Rattle.kin_script.specs.PrintedJournal.{failure_line, block_lines, journal_lines, now_line, one_line, pairs_lines}

-- a fact of the part 0 of the structure 0 had the first sign and has the second
abbrev failure : Form → Sign → Sign → Failure
failure f was now = record { was = record { structure = 0; placed = record { part = 0; fact = record { form = f; sign = was } } }; now = now }

-- two points meet and pass each other
meet_and_pass : journal_lines (
    record { moment = record { at = Ratio (pos 5) (pos 1); phase = At }; failures = failure (Line (pos 1) (pos 0) (pos 0) 0 1) Plus Zero ∷ [] }
    ∷ record { moment = record { at = Ratio (pos 5) (pos 1); phase = After }; failures = failure (Line (pos 1) (pos 0) (pos 0) 0 1) Zero Minus ∷ [] }
    ∷ []
    ) ≡ codes "! 5 0/0 line(1,0) 0 1 + 0\n! 5+ 0/0 line(1,0) 0 1 0 -\n"
unfolding digits
meet_and_pass = refl

-- two facts fail at once
both_fail : block_lines (record {
  moment = record { at = Ratio (pos 7) (pos 3); phase = At };
  failures = failure (Line (pos 1) (neg_ℤ (pos 2)) (pos 0) 0 1) Plus Zero ∷ failure (Line (pos 1) (neg_ℤ (pos 2)) (pos 0) 1 12) Minus Zero ∷ [];
}) ≡ codes "! 7/3 0/0 line(1,-2) 0 1 + 0\n! 7/3 0/0 line(1,-2) 1 12 - 0\n"
unfolding digits
both_fail = refl

-- at an instant that is no fraction
irrational : failure_line (record { at = Root (pos 1) (pos 0) (neg_ℤ (pos 2)) true; phase = At })
    (record { was = record { structure = 3; placed = record { part = 12; fact = record { form = Turn 0 1 2; sign = Minus } } }; now = Zero })
    ≡ codes "! r(1,0,-2,hi) 3/12 turn 0 1 2 - 0\n"
unfolding digits
irrational = refl

-- two boxes of width 2 meet
boxes_meet : failure_line (record { at = Ratio (pos 3) (pos 1); phase = At })
    (record {
      was = record { structure = 0; placed = record { part = 2; fact = record { form = Line (pos 1) (pos 0) (neg_ℤ (pos 2)) 0 1; sign = Plus } } };
      now = Zero;
    })
    ≡ codes "! 3 0/2 line(1,0,-2) 0 1 + 0\n"
unfolding digits
boxes_meet = refl

offset : failure_line (record { at = Ratio (pos 0) (pos 1); phase = After }) (failure (Line (pos 0) (pos 1) (neg_ℤ (pos 30)) 4 5) Zero Plus) ≡ codes "! 0+ 0/0 line(0,1,-30) 4 5 0 +\n"
unfolding digits
offset = refl

slope : failure_line (record { at = Ratio (pos 1) (pos 2); phase = At }) (failure (Slope 1 2 3 4) Plus Minus) ≡ codes "! 1/2 0/0 slope 1 2 3 4 + -\n"
unfolding digits
slope = refl

dist : failure_line (record { at = Ratio (pos 1) (pos 2); phase = At }) (failure (Dist 0 1 0 2) Plus Zero) ≡ codes "! 1/2 0/0 dist 0 1 0 2 + 0\n"
unfolding digits
dist = refl

moved : now_line (record { at = Ratio (pos 11) (pos 4); phase = After }) ≡ codes "now 11/4+\n"
unfolding digits
moved = refl

some_point : one_line (Some 7) ≡ codes "7\n"
unfolding digits
some_point = refl

no_point : one_line None ≡ codes "none\n"
unfolding digits
no_point = refl

some_pairs : pairs_lines ((0, 1) ∷ (0, 12) ∷ []) ≡ codes "0 1\n0 12\n"
unfolding digits
some_pairs = refl

no_pairs : pairs_lines [] ≡ codes "none\n"
unfolding digits
no_pairs = refl
