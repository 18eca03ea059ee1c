-- What is asked, when there is an answer, and why there is none.
use Rattle.std.specs.Prelude.{◌≡◌, ℕ, ◌≤◌, ℤ, List, Option, Some, slice_get, MatchOption}
use Rattle.kin_num.specs.declared.instant.Moment.{Moment}
use Rattle.kin_motion.specs.declared.keep.Keep.{Keep}
use Rattle.kin_motion.specs.declared.keep.Keep.TheVariants as keep
use Rattle.kin_motion.specs.declared.keep.Rect.{Rect}
use Rattle.kin_motion.specs.Boxes.{IsRectInRange}
use Rattle.kin_motion.specs.Course.{Course, motion_of}
use Rattle.kin_motion.specs.Extremes.{IsExtremePoint}
use Rattle.kin_motion.specs.Orders.{IsOrder}
use Rattle.kin_motion.specs.Sizes.{step_limit}
use Rattle.kin_fail.specs.Approach.{IsFirstWithin, StayApart}
use Rattle.kin_tracker.specs.declared.refusal.Refusal.{Refusal}
use Rattle.kin_tracker.specs.declared.refusal.Refusal.TheVariants.{Lost, BadNumber, NotKept, Absent, NoMemory}
use Rattle.kin_tracker.specs.Trackers.{IsHere, IsLost, IsPresent, IsAbsent}
use Rattle.kin_world.specs.Worlds.{World, world_scene}

-- ---- of the tracker and its points

-- why there is no answer
abbrev pub IsRefusedLook : World → Refusal → Type 0
IsRefusedLook w Lost = IsLost w
IsRefusedLook w _ = ⊥

-- why there is none about a number
abbrev pub IsRefusedNumber : World → ℕ → Refusal → Type 0
IsRefusedNumber w number Lost = IsLost w
IsRefusedNumber w number Absent = IsHere w × IsAbsent w number
IsRefusedNumber w number _ = ⊥

-- ---- of a structure

-- an order along some direction has this place
abbrev pub HasOrder : World → ℕ → Type 0
HasOrder w place = (dx : ℤ) × (dy : ℤ) × (slice_get w.keeps place ≡ Some (keep.Order dx dy))

-- an extreme point along some direction has this place
abbrev pub HasExtreme : World → ℕ → Type 0
HasExtreme w place = (dx : ℤ) × (dy : ℤ) × (slice_get w.keeps place ≡ Some (keep.Extreme dx dy))

-- a structure of this kind is kept
abbrev pub HasKeep : World → Keep → Type 0
HasKeep w kind = (place : ℕ) × (slice_get w.keeps place ≡ Some kind)

-- boxes of some width and height are kept
abbrev pub HasBoxes : World → Type 0
HasBoxes w = (place : ℕ) × (width : ℤ) × (height : ℤ) × (slice_get w.keeps place ≡ Some (keep.Boxes width height))

-- what is asked for is kept or not, and the answer takes no memory
abbrev pub IsRefusedAnswer : World → Type 0 → Refusal → Type 0
IsRefusedAnswer w kept Lost = IsLost w
IsRefusedAnswer w kept NotKept = IsHere w × ¬ kept
IsRefusedAnswer w kept _ = ⊥

-- the answer takes memory
abbrev pub IsRefusedList : World → Type 0 → Refusal → Type 0
IsRefusedList w kept Lost = IsLost w
IsRefusedList w kept NotKept = IsHere w × ¬ kept
IsRefusedList w kept NoMemory = IsHere w × kept
IsRefusedList w kept _ = ⊥

-- the order along the direction that is kept at the place
pub record IsOrderAt (w : World) (place : ℕ) (order : List ℕ) : Type 0 where
  pub dx : ℤ
  pub dy : ℤ
  pub kept : slice_get w.keeps place ≡ Some (keep.Order dx dy)
  pub ordered : IsOrder (world_scene w) dx dy order

-- the extreme point along the direction that is kept at the place
pub record IsExtremeAt (w : World) (place : ℕ) (point : Option ℕ) : Type 0 where
  pub dx : ℤ
  pub dy : ℤ
  pub kept : slice_get w.keeps place ≡ Some (keep.Extreme dx dy)
  pub extreme : IsExtremePoint (world_scene w) dx dy point

-- why the points in a rectangle are not listed
abbrev pub IsRefusedInside : World → Rect → Refusal → Type 0
IsRefusedInside w rect Lost = IsLost w
IsRefusedInside w rect BadNumber = IsHere w × ¬ (IsRectInRange rect)
IsRefusedInside w rect NotKept = IsHere w × IsRectInRange rect × ¬ (HasKeep w keep.Range)
IsRefusedInside w rect NoMemory = IsHere w × IsRectInRange rect × HasKeep w keep.Range
IsRefusedInside w rect _ = ⊥

-- why there is no nearest other point
abbrev pub IsRefusedNearest : World → ℕ → Refusal → Type 0
IsRefusedNearest w number Lost = IsLost w
IsRefusedNearest w number NotKept = IsHere w × ¬ (HasKeep w keep.Nearest)
IsRefusedNearest w number Absent = IsHere w × HasKeep w keep.Nearest × IsAbsent w number
IsRefusedNearest w number _ = ⊥

-- ---- of two points

-- both numbers are live
abbrev pub ArePresent : World → ℕ → ℕ → Type 0
ArePresent w one other = IsPresent w one × IsPresent w other

-- why it is not known when the two come near
abbrev pub IsRefusedApproach : World → ℕ → ℕ → ℕ → Refusal → Type 0
IsRefusedApproach w one other distance Lost = IsLost w
IsRefusedApproach w one other distance BadNumber = IsHere w × ¬ (distance ≤ step_limit)
IsRefusedApproach w one other distance Absent = IsHere w × (distance ≤ step_limit) × ¬ (ArePresent w one other)
IsRefusedApproach w one other distance _ = ⊥

-- the first moment from now on at which the two are within the distance, if there is one, where both keep their motions of now
pub record IsApproach (w : World) (one other distance : ℕ) (moment : Option Moment) : Type 0 where
  pub motion : Course
  pub other_motion : Course
  pub is : motion_of w.motions one ≡ Some motion
  pub other_is : motion_of w.motions other ≡ Some other_motion
  pub first : MatchOption moment (StayApart distance motion other_motion w.moment) (IsFirstWithin distance motion other_motion w.moment)
