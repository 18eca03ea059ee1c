use Rattle.kin_wedge.proofs.Lost.{AreLost}
use Rattle.kin_wedge.proofs.touch.Touches.add_lost.Given as goal

abbrev pub invariant-loop-w : goal.invariant-loop-w
invariant-loop-w l = AreLost l.table l.fn.self.all.items l.self.all.items l.no l.w
