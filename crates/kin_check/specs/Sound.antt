-- What holds of every state of a replay.
use Rattle.std.specs.Prelude.{◌≤◌, IsTrue}
use Rattle.kin_num.specs.Canonical.{IsCanonical}
use Rattle.kin_motion.specs.Keeps.{may_keep}
use Rattle.kin_legs.specs.Planned.{ArePlannable}
use Rattle.kin_script.specs.States.{State}

-- the size is in its range, a world may keep what is kept, the points follow paths, and the moment is a canonical one
pub record IsSound (s : State) : Type 0 where
  pub size_low : 1 ≤ s.size
  pub size_high : s.size ≤ 12
  pub keepable : IsTrue (may_keep s.keeps)
  pub plannable : ArePlannable s.plans s.size s.keeps
  pub canonical : IsCanonical s.moment.at
