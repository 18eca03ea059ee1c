-- Octants with the motions that they follow.
use Rattle.std.specs.Prelude.{◌≡◌, ℕ, ◌^◌, ◌≤◌, List, Option, length}
use Rattle.kin_motion.specs.Course.{Course, live_of}
use Rattle.kin_list.specs.declared.mark.Mark.{Mark}
use Rattle.kin_list.specs.Listing.{HasMarked}
use Rattle.kin_wedge.specs.Wedging.{Wedging, members_of}

-- the mark is known, the members are the live numbers once it is carried out, and both have the same room
pub record AreFollowed (size : ℕ) (motions : List (Option Course)) (mark : Mark) (k : Wedging) : Type 0 where
  pub small : size ≤ 12
  pub slots : length motions ≡ 2 ^ size
  pub sized : k.size ≡ size
  pub marked : k.mark ≡ mark
  pub members : HasMarked mark (members_of k) (live_of motions)
