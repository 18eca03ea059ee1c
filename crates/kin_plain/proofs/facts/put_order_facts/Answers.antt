use Rattle.std.proofs.Common.{◌∙◌}
use Rattle.kin_plain.proofs.LiveLists.{order_live}
use Rattle.kin_plain.proofs.facts.put_order_facts.Goals as goal

pub put_neighbours-requires-clause-live : goal.put_neighbours-requires-clause-live
put_neighbours-requires-clause-live g c = order_live (g.O.Signs.scene c.args.now.now) _ c.deref.result.now (c.deref.ensures.value ∙ c.in_ok-order.ensures)
