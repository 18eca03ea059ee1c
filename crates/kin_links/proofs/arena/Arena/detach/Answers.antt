use Rattle.std.proofs.Common.{ap}
use Rattle.kin_links.specs.Pointers.{prev_in}
use Rattle.kin_links.proofs.arena.Arena.detach.Goals as goal

pub set_next-requires : goal.set_next-requires
set_next-requires g c = c.requires.held _ (ap prev_in c.index.ensures)
