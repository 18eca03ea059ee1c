use Rattle.std.proofs.lemmas.List.Elements.{Contains-get_or}
use Rattle.kin_motion.specs.Scene.{Holds, scene_at}
use Rattle.kin_sorted_cases.proofs.Failing.{picked_more, all_picked}
use Rattle.kin_sorted_cases.proofs.points.failing.Goals as goal

pub fails-picked-requires : goal.fails-picked-requires
fails-picked-requires g c = c.requires.askable _ (Contains-get_or c.args.facts.now c.loop-placed.placed-index _ c.loop-placed-test.true)

pub loop-placed-preserved : goal.loop-placed-preserved
loop-placed-preserved g c = picked_more
    (λ p. ¬ (Holds (scene_at c.args.now.now.motions.now c.args.now.now.moment.now) p.fact)) c.args.facts.now c.loop-placed.placed-index c.requires.apart c.loop-placed-test.true _
    c.loop-placed.failed.items _ c.fails-picked.result c.fails-picked.ensures c.in_ok-push_if.ensures c.loop-placed.invariant

pub returns : goal.returns
returns g c = all_picked
    (λ p. ¬ (Holds (scene_at c.args.now.now.motions.now c.args.now.now.moment.now) p.fact)) c.args.facts.now _ c.loop-placed.placed-index c.loop-placed-test.false c.loop-placed.invariant
