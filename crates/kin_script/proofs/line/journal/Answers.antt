use Rattle.std.proofs.Common.{rules}
use Rattle.kin_script.specs.Commands.{journal_of}
use Rattle.kin_script.proofs.line.journal.Goals as goal

pub returns-then-eq : goal.returns-then-eq
unfolding journal_of
returns-then-eq c = search rules
