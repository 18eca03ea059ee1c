use Rattle.std.proofs.Common.{rules}
use Rattle.kin_hull.proofs.side.reflected.Goals as goal

pub returns-then-changes_sides : goal.returns-then-changes_sides
returns-then-changes_sides c = search rules

pub returns-else-changes_sides : goal.returns-else-changes_sides
returns-else-changes_sides c = search rules
