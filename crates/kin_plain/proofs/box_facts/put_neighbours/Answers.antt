use Rattle.std.proofs.Common.{arith, ◌-◌}
use Rattle.kin_plain.proofs.BoxEnds.{all_end_facts, end_askable}
use Rattle.kin_plain.proofs.box_facts.put_neighbours.Goals as goal

pub put_fact-requires : goal.put_fact-requires
put_fact-requires g c =
    let axis = c.args.axis.now in
    let high = c.loop-place-test.true in
    let a_live = c.requires.live (c.loop-place.place - 1) 0 (omega (arith, high)) in
    let b_live = c.requires.live c.loop-place.place 0 high in
    record {
      askable = end_askable (g.O.Signs.scene c.args.now.now) axis.dx axis.dy axis.size _ _ c.form.result axis.dx_small axis.dy_small axis.size_small a_live b_live
          c.form.ensures;
    }

pub returns : goal.returns
returns g c =
    let axis = c.args.axis.now in
    all_end_facts (g.O.Signs.scene c.args.now.now) axis.dx axis.dy axis.size c.args.first c.args.order.now c.loop-place.place c.loop-place.facts.items
    c.args.facts.now.items c.loop-place-test.false c.loop-place.auto.place c.loop-place.invariant
