use Rattle.std.specs.Prelude.{None, ⊤}
use Rattle.kin_wedge.proofs.Lost.{AreOfferedBut}
use Rattle.kin_wedge.proofs.touch.Touches.add_lost_in.Given as goal

abbrev pub invariant-loop-apex : goal.invariant-loop-apex
invariant-loop-apex l = AreOfferedBut l.table l.w l.no (λ apex. ⊤) None l.fn.self.all.items l.self.all.items l.apex-iterator
