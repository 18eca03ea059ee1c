use Rattle.std.proofs.Common.{refl, ◌∙◌}
use Rattle.kin_plain.proofs.BoxEnds.{ends_live, sorted_ends}
use Rattle.kin_plain.proofs.box_facts.put_end_facts.Goals as goal

pub put_neighbours-requires-clause-live : goal.put_neighbours-requires-clause-live
put_neighbours-requires-clause-live g c =
    let s = g.O.Signs.scene c.args.now.now in
    sorted_ends s _ _ c.deref.result.now 0 (ends_live s _ _ refl refl) (c.deref.ensures.value ∙ c.in_ok-order.ensures)
