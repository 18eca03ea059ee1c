use Rattle.std.proofs.Common.{rules}
use Rattle.kin_queue.proofs.heap.put.Goals as goal

pub returns-clause-places : goal.returns-clause-places
returns-clause-places c = search rules
