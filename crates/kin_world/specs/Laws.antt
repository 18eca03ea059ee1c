-- What holds of every whole world. Each is promised by a function of the module `laws`.
use Rattle.std.specs.Prelude.{List, Contains}
use Rattle.kin_num.specs.declared.instant.Moment.{Moment}
use Rattle.kin_num.specs.Canonical.{IsCanonical}
use Rattle.kin_num.specs.Order.{IsEarlier}
use Rattle.kin_motion.specs.Forms.{polynomial_of}
use Rattle.kin_motion.specs.Journal.{Failure, Block, IsNextBlock, IsJournal}
use Rattle.kin_fail.specs.Laws.{IsProperRoot, IsProper}
use Rattle.kin_legs.specs.Paths.{NoneBeginsBetween}
use Rattle.kin_world.specs.Worlds.{World, IsWhole, world_plans, world_setting}

-- where no leg begins before the next block of a whole world, it is at or just after a root of the polynomial of each of its failures, over the motions of now
abbrev pub BlocksAreAtRoots : Type 0
BlocksAreAtRoots = (w : World) (b : Block) (f : Failure) → IsWhole w → IsNextBlock (world_setting w) w.moment b → NoneBeginsBetween w.moment b.moment (world_plans w) → Contains b.failures f → IsProperRoot (polynomial_of w.motions f.was.placed.fact.form) b.moment.at

-- a whole world has a journal up to each moment that isn't before its own
abbrev pub JournalsExist : Type 0
JournalsExist = (w : World) (last : Moment) → IsWhole w → IsCanonical last.at → ¬ (IsEarlier last w.moment) → (bs : List Block) × IsJournal (world_setting w) w.moment last bs

-- a whole world's motions, size and keeps are such as the laws of journals ask for
abbrev pub WholeWorldsAreProper : Type 0
WholeWorldsAreProper = (w : World) → IsWhole w → IsProper w.motions w.size w.keeps
