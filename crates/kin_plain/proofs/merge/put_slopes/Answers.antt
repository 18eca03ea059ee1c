use Rattle.kin_motion.specs.Scene.{placed_at}
use Rattle.kin_plain.proofs.Merging.{slopes_all}
use Rattle.kin_plain.proofs.merge.put_slopes.Goals as goal

pub returns : goal.returns
returns g c =
    slopes_all (placed_at (g.O.Signs.scene c.args.now.now) c.args.part) c.args.list.now c.loop-place.place c.loop-place.facts.items _ c.loop-place-test.false c.loop-place.auto.place
    c.loop-place.invariant
