use Rattle.std.proofs.Common.{rules}
use Rattle.kin_queue.proofs.due.Due.is_moment_of.Goals as goal

pub returns : goal.returns
returns c = search rules
