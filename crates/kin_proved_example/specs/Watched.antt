-- What the example relies on.
use Rattle.std.specs.Prelude.{◌≡◌, ◌<◌, List, Some, slice_get}
use Rattle.kin_num.specs.declared.instant.Moment.{Moment}
use Rattle.kin_num.specs.Grains.{moments_left}
use Rattle.kin_num.specs.Order.{IsEarlier}
use Rattle.kin_motion.specs.declared.keep.Keep.{Keep}
use Rattle.kin_motion.specs.declared.keep.Keep.TheVariants.{Closest, Range}
use Rattle.kin_world.specs.Worlds.{World, IsWhole}

-- these are kept, in these places
pub record AreKept (keeps : List Keep) : Type 0 where
  pub closest : slice_get keeps 0 ≡ Some Closest
  pub range : slice_get keeps 1 ≡ Some Range

-- the world is whole, and keeps these
pub record IsWatched (w : World) : Type 0 where
  pub whole : IsWhole w
  pub kept : AreKept w.keeps

-- it is so, and the limit is later than its moment
pub record CanGoOn (limit : Moment) (w : World) : Type 0 where
  pub watched : IsWatched w
  pub ahead : IsEarlier w.moment limit
  pub not_past : ¬ (IsEarlier limit w.moment)

-- it is so again, and fewer moments are left
pub record HasGoneOn (old new : World) : Type 0 where
  pub watched : IsWatched new
  pub fewer : moments_left new.moment < moments_left old.moment
