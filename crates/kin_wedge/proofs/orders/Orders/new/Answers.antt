use Rattle.kin_wedge.proofs.Vacancy.{vacant_more}
use Rattle.kin_wedge.proofs.orders.Orders.new.Goals as goal

pub loop-part-preserved : goal.loop-part-preserved
loop-part-preserved c = vacant_more c.args.size c.loop-part.lists.items c.push.new.items.items c.loop-part.part c.in_ok-list.list c.loop-part.invariant c.in_ok-list.ensures c.in_ok-push.ensures
