use Rattle.kin_wedge.proofs.Vacancy.{AreEmptyRows}
use Rattle.kin_wedge.proofs.rows.Rows.new.Given as goal

abbrev pub invariant-loop-part : goal.invariant-loop-part
invariant-loop-part l = AreEmptyRows l.rows.items l.part
