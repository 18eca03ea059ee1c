use Rattle.std.proofs.Common.{drop}
use Rattle.std.specs.Prelude.{Contains}
use Rattle.kin_diameter.proofs.changes.has.Given as goal

abbrev pub invariant-loop-other : goal.invariant-loop-other
invariant-loop-other l = Contains l.slopes l.slope → Contains (drop l.other-index l.slopes) l.slope
