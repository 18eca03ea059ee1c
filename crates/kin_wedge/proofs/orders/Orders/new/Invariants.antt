use Rattle.kin_wedge.proofs.Vacancy.{AreVacantBelow}
use Rattle.kin_wedge.proofs.orders.Orders.new.Given as goal

abbrev pub invariant-loop-part : goal.invariant-loop-part
invariant-loop-part l = AreVacantBelow l.size l.lists.items l.part
