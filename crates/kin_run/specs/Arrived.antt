-- A world that has gone on to a moment.
use Rattle.std.specs.Prelude.{◌≡◌}
use Rattle.kin_num.specs.declared.instant.Moment.{Moment}
use Rattle.kin_legs.specs.Paths.{plans_left}
use Rattle.kin_world.specs.Worlds.{World, IsWhole, world_plans}

-- the moment is this one, the same is kept, and of the plans there is what is left of them
pub record HasArrived (m : Moment) (old new : World) : Type 0 where
  pub moment : new.moment ≡ m
  pub size : new.size ≡ old.size
  pub keeps : new.keeps ≡ old.keeps
  pub plans : world_plans new ≡ plans_left m (world_plans old)
  pub whole : IsWhole new
