use Rattle.kin_list.specs.declared.mark.Mark.TheVariants.{Leaves}
use Rattle.kin_wedge.specs.Parts.{IsMarked}
use Rattle.kin_wedge.proofs.Stepwise.{AreMade}
use Rattle.kin_wedge.proofs.orders.Orders.remove.Given as goal

abbrev pub invariant-loop-part : goal.invariant-loop-part
invariant-loop-part l = AreMade (IsMarked (Leaves l.no)) l.fn.self.lists.items l.self.lists.items l.part
