use Rattle.std.proofs.Common.{arith, ◌*◌, ◌^◌, ◌≤◌, ℕ}
use Rattle.std.proofs.Math.Pow.{pow_mono}
use Rattle.kin_motion.specs.ClosestFacts.{near_slots_of_point}
use Rattle.kin_motion.specs.Octants.{octants}
use Rattle.kin_plain.proofs.Numbering.{joined_more}
use Rattle.kin_plain.proofs.closest.near_slots.Goals as goal

pub put_near_slots-requires-clause-point : goal.put_near_slots-requires-clause-point
put_near_slots-requires-clause-point g c =
    let low = c.loop-p-test.true in
    let end = c.numbers_below-p-end.ensures in
    let most : 2 ^ c.args.size ≤ 2 ^ 12 = pow_mono c.requires.size in
    omega (arith, low, end, most)

pub loop-p-preserved : goal.loop-p-preserved
loop-p-preserved g c =
    let low = c.loop-p-test.true in
    let end = c.numbers_below-p-end.ensures in
    record {
      value =
          joined_more (λ (p : ℕ). near_slots_of_point (g.O.Signs.scene c.args.now.now) p (8 * p) octants) (2 ^ c.args.size) c.loop-p.p c.loop-p.slots.items _ _ (omega (arith, low, end))
          c.in_ok-put_near_slots.ensures.value c.loop-p.invariant.value;
      may = c.in_ok-put_near_slots.ensures.may;
    }
