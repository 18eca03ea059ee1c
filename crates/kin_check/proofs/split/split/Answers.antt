use Rattle.std.proofs.Common.{refl, arith, subst, List, ℕ}
use Rattle.std.proofs.lemmas.List.{take_rest}
use Rattle.kin_check.specs.Splits.{HasNoMark, IsMark}
use Rattle.kin_check.proofs.Splitting.{no_mark, no_piece, none_yet, split_at, unsplit}
use Rattle.kin_check.proofs.split.split.Goals as goal
use Rattle.kin_check.proofs.split.split.Goals.{then-begins_piece+in_default, else-begins_piece}

pub loop-at-init : goal.loop-at-init
loop-at-init c = none_yet c.args.input.now

pub returns-in-Some : goal.returns-in-Some
returns-in-Some c =
    let low = c.loop-at-test.true in
    split_at c.args.input.now c.loop-at.at c.in-Some.claim.now (omega (arith, low)) c.loop-at.invariant (c.if-begins_piece.ensures.0 refl)
    (subst (λ (w : List ℕ). IsMark w c.in-Some.claim.now) (take_rest c.args.input.now c.loop-at.at) c.in-Some.ensures)

pub loop-at-preserved : goal.loop-at-preserved
loop-at-preserved c = elim c.if-begins_piece.branch [
  | then-begins_piece+in_default w ↦ no_mark c.args.input.now c.loop-at.at c.loop-at.invariant (subst HasNoMark (take_rest c.args.input.now c.loop-at.at) w.in_default.ensures)
  | else-begins_piece w ↦ no_piece c.args.input.now c.loop-at.at c.loop-at.invariant (λ h. let t = w.if-begins_piece.ensures.1 h in cc)
]

pub returns : goal.returns
returns c =
    let high = c.loop-at-test.false in
    unsplit c.args.input.now c.loop-at.at (omega (arith, high)) c.loop-at.invariant
