use Rattle.std.proofs.Common.{w32}
use Rattle.std.proofs.lemmas.Int.{to_z-of_z}
use Rattle.kin_plain.proofs.Neighbours.{all_neighbours}
use Rattle.kin_plain.proofs.facts.put_neighbours.Goals as goal

pub returns : goal.returns
returns g c =
    all_neighbours (g.O.Signs.scene c.args.now.now) c.args.dx c.args.dy _ _ c.args.part c.args.order.now c.loop-place.place c.loop-place.facts.items c.args.facts.now.items
    (to_z-of_z w32 c.args.dx (record { sfits = c.ranges.dx.sfits })) (to_z-of_z w32 c.args.dy (record { sfits = c.ranges.dy.sfits })) c.loop-place-test.false c.loop-place.auto.place
    c.loop-place.invariant
