use Rattle.kin_wedge.proofs.Touching.{AreLookedUp}
use Rattle.kin_wedge.proofs.touch.Touches.add_apex.Given as goal

abbrev pub invariant-loop-w : goal.invariant-loop-w
invariant-loop-w l = AreLookedUp l.table l.fn.self.all.items l.self.all.items l.apex l.w
