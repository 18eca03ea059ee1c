use Rattle.std.specs.Prelude.{IsFalse}
use Rattle.kin_motion.specs.Scene.{Holds}
use Rattle.kin_cases.proofs.Picked.{picked_more, all_picked}
use Rattle.kin_cases.proofs.failing.failing.Goals as goal

pub loop-fact-preserved : goal.loop-fact-preserved
loop-fact-preserved g c =
    picked_more c.args.facts.now c.requires (λ p. IsFalse (g.S.Spares.is_spared c.args.spares.now p) × ¬ (Holds (g.O.Signs.scene c.args.now.now.signs.now) p.fact))
    c.loop-fact.failed.items _ c.loop-fact.fact-index _ _ c.loop-fact-test.true c.in_ok-picked.ensures c.in_ok-push_if.ensures c.loop-fact.invariant

pub returns : goal.returns
returns g c =
    all_picked c.args.facts.now c.requires (λ p. IsFalse (g.S.Spares.is_spared c.args.spares.now p) × ¬ (Holds (g.O.Signs.scene c.args.now.now.signs.now) p.fact))
    _ c.loop-fact.fact-index c.loop-fact-test.false c.loop-fact.invariant
