-- Every number of a script is in its range.
use Rattle.std.proofs.Common.{ℕ, ◌≤◌, Bool, List, [], ◌∷◌, sym, subst, pos, unsigned_abs, arith}
use Rattle.std.specs.Prelude.{codes, All, ◌==◌}
use Rattle.std.specs.List.{AllZip}
use Rattle.std.specs.Str.{bytes_eq}
use Rattle.std.proofs.lemmas.Int.{ints}
use Rattle.std.proofs.lemmas.List.Elements.{All-nil, All-cons}
use Rattle.kin_script.specs.declared.command.Command.{Command}
use Rattle.kin_script.specs.declared.command.Command.TheVariants.{AtRatio, AtRoot, Next}
use Rattle.kin_script.specs.declared.line.HeaderLine.{HeaderLine}
use Rattle.kin_script.specs.declared.line.HeaderLine.TheVariants as header_line
use Rattle.kin_script.specs.declared.script.Script.{Script}
use Rattle.kin_script.specs.Lines.{Word}
use Rattle.kin_script.specs.Left.{Numbered}
use Rattle.kin_script.specs.Words.{side_at}
use Rattle.kin_script.specs.Questions.{IsKeepInRange}
use Rattle.kin_script.specs.Commands.{quadratic_at, root_of, at_of, command_of, size_of, journal_of, header_line_of}
use Rattle.kin_script.specs.Grammar.{IsScript}
use Rattle.kin_script.specs.Ranges.{IsRootInRange, IsCommandInRange, IsWithin}
use Rattle.kin_script.specs.Written.{SaysHeaderLine, SaysCommand, keeps_of, worded_lines, IsWritten}
use Rattle.kin_script.proofs.EachGiven.{Each, each_none, each_one, each_way, each_unless, each_last, each_map, each_then}
use Rattle.kin_script.proofs.Changes.{insert_range, remove_range, replace_range, turn_range, leg_range}
use Rattle.kin_script.proofs.Questions.{keep_range, question_range, question_in_range}
use Rattle.kin_script.proofs.Theorems.{scripts_are_written}
use Rattle.kin_script.proofs.WordRanges.{IsRatio, ratio_range, natural_at_range, integer_at_range, some}

-- ---- commands
quadratic_range : (ws : List Word) → Each (λ q. IsRootInRange q.0.0 q.0.1 q.0.2) (quadratic_at ws)
unfolding quadratic_at
quadratic_range ws =
    each_then _ _ _ _ (integer_at_range 536870912 ws) (λ a ha.
    each_then _ _ _ _ (integer_at_range 2147483648 a.1) (λ b hb.
    each_then _ _ _ _ (integer_at_range 536870912 b.1) (λ c hc.
    each_unless _ (unsigned_abs a.0 == 0) _ (λ e. each_one _ ((a.0, b.0, c.0), c.1) (record {
      a_small = omega (arith, ha);
      a_not_zero = some (unsigned_abs a.0) e;
      b_small = omega (arith, hb);
      c_small = omega (arith, hc);
    })))))

root_range : (size : ℕ) (ws : List Word) → Each (IsCommandInRange size) (root_of ws)
unfolding root_of
root_range size ws = each_then _ _ _ _ (quadratic_range ws) (λ q h. each_then _ (λ (u : Bool × List Word). Unit {0}) (side_at q.1) _ (λ u e. tt) (λ u k. each_last _ (AtRoot q.0.0 q.0.1 q.0.2 u.0) u.1 h))

at_range : (size : ℕ) (ws : List Word) → Each (IsCommandInRange size) (at_of ws)
unfolding at_of
at_range size [] = each_none _
at_range size (w ∷ ws) = each_way _ _ _ _ (root_range size ws) (each_then _ _ _ _ (ratio_range w) (λ r h. each_last _ _ ws (in_range r.0 r.1 h)))
  where
    in_range : (n d : ℕ) → IsRatio (n, d) → IsCommandInRange size (AtRatio (pos n) (pos d))
    in_range n d h = record {
      n_low = omega (arith, ints);
      n_small = omega (arith, h.0);
      d_low = omega (arith, ints, h.1);
      d_small = omega (arith, h.2);
    }

command_range : (size : ℕ) (ws : List Word) → Each (IsCommandInRange size) (command_of size ws)
unfolding command_of
command_range size [] = each_none _
command_range size (name ∷ ws) =
    each_way _ _ _ _ (insert_range size ws)
    (each_way _ _ _ _ (remove_range size ws)
    (each_way _ _ _ _ (replace_range size ws)
    (each_way _ _ _ _ (turn_range size ws)
    (each_way _ _ _ _ (leg_range size ws)
    (each_way _ _ _ _ (at_range size ws)
    (each_way _ _ _ _ (each_last _ Next ws tt)
    (λ c e. question_in_range size c (question_range size name ws c e))))))))

-- ---- the header
size_range : (ws : List Word) → Each (λ k. (1 ≤ k) × (k ≤ 12)) (size_of ws)
unfolding size_of
size_range [] = each_none _
size_range (name ∷ ws) = each_way _ _ _ _ (each_then _ _ _ _ (natural_at_range 1 12 ws) (λ k h. each_last _ k.0 k.1 h)) (each_none _)

-- the numbers of a header line are in range
abbrev IsHeaderLineInRange : HeaderLine → Type 0
IsHeaderLineInRange (header_line.Keep k) = IsKeepInRange k
IsHeaderLineInRange (header_line.Journal on) = Unit {0}

header_line_range : (ws : List Word) → Each IsHeaderLineInRange (header_line_of ws)
unfolding header_line_of
header_line_range [] = each_none _
header_line_range (name ∷ ws) =
    each_way _ (bytes_eq name (codes "keep")) _ _ (each_map _ (λ k. header_line.Keep k) _ (keep_range ws))
    (each_way _ (bytes_eq name (codes "journal")) _ _ (each_map _ (λ on. header_line.Journal on) (journal_of ws) (λ on e. tt)) (each_none _))

-- ---- the script
keeps_range : (ls : List Numbered) (ss : List HeaderLine) → AllZip SaysHeaderLine ls ss → All IsKeepInRange (keeps_of ss)
keeps_range [] [] z = All-nil IsKeepInRange
keeps_range [] (s ∷ ss) z = absurd z
keeps_range (l ∷ ls) [] z = absurd z
keeps_range (l ∷ ls) (header_line.Keep k ∷ ss) z = All-cons IsKeepInRange k (keeps_of ss) (header_line_range l.1 (header_line.Keep k) z.0) (keeps_range ls ss z.1)
keeps_range (l ∷ ls) (header_line.Journal on ∷ ss) z = keeps_range ls ss z.1

commands_range : (size : ℕ) (ls : List Numbered) (cs : List (ℕ × Command)) → AllZip (SaysCommand size) ls cs → All (λ c. IsCommandInRange size c.1) cs
commands_range size [] [] z = All-nil (λ c. IsCommandInRange size c.1)
commands_range size [] (c ∷ cs) z = absurd z
commands_range size (l ∷ ls) [] z = absurd z
commands_range size (l ∷ ls) (c ∷ cs) z = All-cons (λ d. IsCommandInRange size d.1) c cs (command_range size l.1 c.1 z.0.1) (commands_range size ls cs z.1)

written_within : (ls : List Numbered) (s : Script) → IsWritten ls s → IsWithin s
written_within ls s w =
    let size = size_range w.first.1 s.size w.size in
    record {
      size_low = size.0;
      size_high = size.1;
      keepable = w.keepable;
      keeps = subst (All IsKeepInRange) (sym w.keeps) (keeps_range w.header w.header_lines w.header_says);
      commands = commands_range s.size w.commands s.lines w.commands_say;
    }

pub script_within : (bytes : List ℕ) (s : Script) → IsScript bytes s → IsWithin s
script_within bytes s is = written_within (worded_lines bytes) s ((scripts_are_written bytes s).0 is)
