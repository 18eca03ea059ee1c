-- A structure that a world keeps, with the motions that it follows.
use Rattle.std.specs.Prelude.{◌≡◌, ℕ, ◌^◌, ◌≤◌, List, Option, length}
use Rattle.kin_motion.specs.Course.{Course, live_of}
use Rattle.kin_motion.specs.Scene.{Scene, scene_at}
use Rattle.kin_motion.specs.declared.keep.Keep.{Keep}
use Rattle.kin_num.specs.declared.instant.Moment.{Moment}

-- at rest and settled at the moment, it is the structure of some keep, its members are the live numbers, and it has the same room
pub record IsKept {K : Type 0} (is_for : K → ℕ → Keep → Type 0) (at_rest : K → Type 0) (has_members : K → List ℕ → Type 0) (settled : K → Scene → Type 0) (size : ℕ) (motions : List (Option Course)) (m : Moment) (k : K) : Type 0 where
  pub small : size ≤ 12
  pub slots : length motions ≡ 2 ^ size
  pub keep : Keep
  pub kind : is_for k size keep
  pub rest : at_rest k
  pub members : has_members k (live_of motions)
  pub settled_now : settled k (scene_at motions m)
