use Rattle.std.proofs.Common.{arith, subst, sym}
use Rattle.std.proofs.lemmas.List.{take_all}
use Rattle.kin_motion.specs.Live.{Certificate}
use Rattle.kin_motion.specs.Scene.{scene_at}
use Rattle.kin_check.specs.Least.{IsLeastFailure}
use Rattle.kin_check.proofs.Legs.{last_item}
use Rattle.std.proofs.Common.{List, take}
use Rattle.kin_check.proofs.least.least_failure.Goals as goal

pub loop-fact-preserved : goal.loop-fact-preserved
loop-fact-preserved g c =
    let low = c.loop-fact-test.true in
    let scene = scene_at c.args.motions.now in
    subst (λ (cs : List Certificate). IsLeastFailure scene c.args.now.now cs c.sooner-least.result)
    (sym (last_item c.args.facts.now c.loop-fact.fact-index c.fact-item.result (omega (arith, low)) c.fact-item.is))
    (c.sooner-least.ensures scene c.args.now.now (take c.loop-fact.fact-index c.args.facts.now) c.fact-item.result c.loop-fact.invariant c.failure_of-fails.ensures)

pub returns : goal.returns
returns g c =
    let high = c.loop-fact-test.false in
    subst (λ (cs : List Certificate). IsLeastFailure (scene_at c.args.motions.now) c.args.now.now cs c.loop-fact.least) (take_all c.loop-fact.fact-index c.args.facts.now (omega (arith, high)))
    c.loop-fact.invariant
