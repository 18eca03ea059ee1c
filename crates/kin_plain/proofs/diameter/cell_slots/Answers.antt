use Rattle.std.proofs.Common.{arith, ap, ◌∙◌, ◌+◌, ◌^◌, ◌++◌, ◌∷◌, [], ℕ}
use Rattle.std.specs.Prelude.{Option}
use Rattle.kin_motion.specs.ClosestPairs.{Near}
use Rattle.kin_motion.specs.Sweeps.{cell_in}
use Rattle.kin_plain.proofs.Numbering.{made_more}
use Rattle.kin_plain.proofs.diameter.cell_slots.Goals as goal

pub loop-slot-preserved : goal.loop-slot-preserved
loop-slot-preserved c =
    let low = c.loop-slot-test.true in
    let end = c.numbers_below-slot-end.ensures in
    made_more (λ (slot : ℕ). cell_in slot c.args.cells.now) (2 ^ (c.args.size + 1)) c.loop-slot.slot c.loop-slot.slots.items _ _ (omega (arith, low, end))
    (c.in_ok-put.ensures ∙ ap (λ (h : Option Near). c.loop-slot.slots.items ++ h ∷ []) c.cell_in.ensures) c.loop-slot.invariant
