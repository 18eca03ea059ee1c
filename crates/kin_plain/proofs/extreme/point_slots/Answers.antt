use Rattle.std.proofs.Common.{arith, ap, ◌∙◌, ◌^◌, ◌++◌, ◌∷◌, [], ℕ}
use Rattle.std.specs.Prelude.{Option}
use Rattle.kin_motion.specs.Extremes.{slot_of_point}
use Rattle.kin_plain.proofs.Numbering.{made_more}
use Rattle.kin_plain.proofs.extreme.point_slots.Goals as goal

pub loop-no-preserved : goal.loop-no-preserved
loop-no-preserved c =
    let low = c.loop-no-test.true in
    let end = c.numbers_below-no-end.ensures in
    made_more (slot_of_point c.args.live.now) (2 ^ c.args.size) c.loop-no.no c.loop-no.slots.items _ _ (omega (arith, low, end))
    (c.in_ok-put.ensures ∙ ap (λ (h : Option ℕ). c.loop-no.slots.items ++ h ∷ []) c.slot_of_point.ensures) c.loop-no.invariant
