use Rattle.std.proofs.Common.{rules}
use Rattle.kin_overlay.proofs.fill.next_of.Goals as goal

pub returns-then-is-clause-value : goal.returns-then-is-clause-value
returns-then-is-clause-value g c = search rules

pub returns-then-is-clause-count : goal.returns-then-is-clause-count
returns-then-is-clause-count g c = search rules

pub returns-clause-value : goal.returns-clause-value
returns-clause-value g c = search rules

pub returns-clause-count : goal.returns-clause-count
returns-clause-count g c = search rules
