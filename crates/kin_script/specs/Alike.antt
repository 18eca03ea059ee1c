-- States that differ in nothing but legs that are over.
use Rattle.std.specs.Prelude.{◌≡◌}
use Rattle.kin_num.specs.Canonical.{IsCanonical}
use Rattle.kin_legs.specs.Paths.{ArePaths, plans_left}
use Rattle.kin_script.specs.States.{State}

-- the same moment, the same is kept, and of the plans the same is left: the motions in force, and the legs that are still to come
pub record IsAlike (s t : State) : Type 0 where
  pub size : s.size ≡ t.size
  pub keeps : s.keeps ≡ t.keeps
  pub journal : s.journal ≡ t.journal
  pub moment : s.moment ≡ t.moment
  pub left : plans_left s.moment s.plans ≡ plans_left s.moment t.plans

-- each plan is a path, and the moment is a canonical one
pub record IsOnPaths (s : State) : Type 0 where
  pub paths : ArePaths s.plans
  pub canonical : IsCanonical s.moment.at
