-- The order of a hull's chains before and after a change. Each law is promised by the function `chains_keep_order`.
use Rattle.std.specs.Prelude.{◌≡◌, ℕ, false, List, Option, Some, None, slice_get, slice_set}
use Rattle.kin_num.specs.declared.instant.Moment.{Moment}
use Rattle.kin_num.specs.Canonical.{IsCanonical}
use Rattle.kin_motion.specs.declared.keep.Keep.{Keep}
use Rattle.kin_motion.specs.declared.keep.Keep.TheVariants.{Hull}
use Rattle.kin_motion.specs.Course.{Course, is_live}
use Rattle.kin_motion.specs.Journal.{setting_of, Block, IsNextBlock}
pub use Rattle.kin_motion.specs.KeptOrder.{IsChainOfNode, TreeKeepsOrder, TreesKeepOrder}
use Rattle.kin_motion.specs.Scene.{scene_at}
use Rattle.kin_fail.specs.Laws.{IsProper}
pub use Rattle.kin_hull.specs.Following.{HullsFollowTrees}

-- where a hull is kept, its chains keep their order from a moment to that of the next block
abbrev pub BlocksKeepOrder : Type 0
BlocksKeepOrder =
    (ms : List (Option Course)) (size : ℕ) (keeps : List Keep) (hull : ℕ) (now : Moment) (b : Block)
    → IsProper ms size keeps → slice_get keeps hull ≡ Some Hull → IsCanonical now.at → IsNextBlock (setting_of ms size keeps) now b
    → TreesKeepOrder size (scene_at ms now) (scene_at ms b.moment)

-- at one moment they keep it where a number enters
abbrev pub InsertionsKeepOrder : Type 0
InsertionsKeepOrder =
    (ms : List (Option Course)) (size entering : ℕ) (motion : Course) (m : Moment) → is_live ms entering ≡ false → IsCanonical m.at
    → TreesKeepOrder size (scene_at ms m) (scene_at (slice_set ms entering (Some motion)) m)

-- and where one leaves
abbrev pub RemovalsKeepOrder : Type 0
RemovalsKeepOrder =
    (ms : List (Option Course)) (size leaving : ℕ) (m : Moment) → IsCanonical m.at
    → TreesKeepOrder size (scene_at ms m) (scene_at (slice_set ms leaving None) m)
