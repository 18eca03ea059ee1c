use Rattle.std.proofs.Common.{◌≡◌, ℕ, ◌+◌, ◌*◌, List, length, take, subst, sym, ◌∙◌, arith}
use Rattle.std.proofs.lemmas.List.{take_more}
use Rattle.kin_motion.specs.Scene.{scene_at}
use Rattle.kin_cert.specs.Cost.{TakesAtMost}
use Rattle.kin_cert.specs.Layout.{live_in}
use Rattle.kin_cert.specs.Names.{AreRenewed}
use Rattle.kin_cert.proofs.Costs.{one_more}
use Rattle.kin_cert.proofs.Renewing.{more-renewed}
use Rattle.kin_cert.proofs.timing.time_each.Goals as goal

pub loop-slot-preserved : goal.loop-slot-preserved
loop-slot-preserved g c =
    let scene = scene_at c.args.motions.now in
    record {
      table = c.time_anew.ensures.table;
      renewed = subst (λ (marks : List ℕ). AreRenewed scene c.args.now.now marks c.args.roll.now c.time_anew.new.roll) (sym (take_more c.args.slots.now c.loop-slot.slot-index _ c.loop-slot-test.true))
          (more-renewed scene c.args.now.now (take c.loop-slot.slot-index c.args.slots.now) _ c.args.roll.now c.loop-slot.roll c.time_anew.new.roll c.loop-slot.invariant.renewed c.in_ok-time_anew.ensures.renewed c.time_anew.ensures.facts);
      facts = λ id. c.time_anew.ensures.facts id ∙ c.loop-slot.invariant.facts id;
      cost = one_more (length (live_in c.args.roll.now)) c.loop-slot.slot-index _ _ _ (λ r. 2 * r + 1) c.loop-slot.invariant.cost
          (subst (λ (n : ℕ). TakesAtMost n (λ r. 2 * r + 1) c.loop-slot.steps c.time_anew.new.steps) c.loop-slot.invariant.renewed.count c.in_ok-time_anew.ensures.cost);
    }

pub returns-clause-cost : goal.returns-clause-cost
returns-clause-cost g c =
    let all : c.loop-slot.slot-index ≡ length c.args.slots.now = omega arith in
    subst (λ (n : ℕ). TakesAtMost (length (live_in c.args.roll.now)) (λ r. n * (2 * r + 1)) c.args.steps.now c.loop-slot.steps) all c.loop-slot.invariant.cost
