use Rattle.std.proofs.Common.{rules}
use Rattle.kin_io.proofs.memory.MemSinkSink.write.Goals as goal

pub returns-then-failed-clause-fails : goal.returns-then-failed-clause-fails
returns-then-failed-clause-fails c = search rules

pub returns-clause-bytes : goal.returns-clause-bytes
returns-clause-bytes c = search rules
