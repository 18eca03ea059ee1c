use Rattle.std.proofs.Common.{rules}
use Rattle.kin_queue.proofs.tie.lowest_tie.Goals as goal

pub levels-preserved : goal.levels-preserved
levels-preserved c = search rules
