use Rattle.kin_wedge.specs.Parts.{StandsStill}
use Rattle.kin_wedge.proofs.Stepwise.{AreMade}
use Rattle.kin_wedge.proofs.orders.Orders.stand_still.Given as goal

abbrev pub invariant-loop-part : goal.invariant-loop-part
invariant-loop-part l = AreMade StandsStill l.fn.self.lists.items l.self.lists.items l.part
