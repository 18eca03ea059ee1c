use Rattle.kin_wedge.specs.Rows.{row_of}
use Rattle.kin_wedge.specs.Seen.{rows_of}
use Rattle.kin_wedge.proofs.LookingUp.{AreLookedUpTo}
use Rattle.kin_wedge.proofs.touch.Touches.add_all.Given as goal

abbrev pub invariant-loop-apex : goal.invariant-loop-apex
invariant-loop-apex l = AreLookedUpTo l.table (row_of (rows_of l.orders.lists.items) 0) l.fn.self.all.items l.self.all.items l.apex-index
