-- Questions.
use Rattle.std.specs.Prelude.{◌≡◌, ℕ, ◌≤◌, ℤ, List, [], ◌∷◌, ◌++◌, Option, Some, MatchOption, length, option_to_list, slice_get}
use Rattle.kin_num.specs.declared.instant.Moment.{Moment}
use Rattle.kin_num.specs.Canonical.{IsCanonical}
use Rattle.kin_legs.specs.Nexts.{IsAtRest}
use Rattle.kin_motion.specs.declared.keep.Keep.{Keep}
use Rattle.kin_motion.specs.declared.keep.Keep.TheVariants as keep
use Rattle.kin_motion.specs.declared.keep.Rect.{Rect}
use Rattle.kin_motion.specs.Boxes.{IsRectInRange, points_in}
use Rattle.kin_motion.specs.Chains.{IsHullCycle}
use Rattle.kin_motion.specs.ClosestPairs.{IsClosest}
use Rattle.kin_motion.specs.Course.{Course, live_of, motion_of}
use Rattle.kin_motion.specs.FactCounts.{most_live}
use Rattle.kin_motion.specs.Farthest.{IsFarthest}
use Rattle.kin_motion.specs.Nearest.{IsNearest}
use Rattle.kin_motion.specs.Overlaps.{ListsOverlaps}
use Rattle.kin_motion.specs.Sizes.{step_limit}
use Rattle.kin_script.specs.Printed.{moment_text}
use Rattle.kin_tracker.specs.declared.refusal.Refusal.{Refusal}
use Rattle.kin_tracker.specs.declared.refusal.Refusal.TheVariants.{NoMemory}
use Rattle.kin_tracker.specs.Questions.{HasBoxes, HasExtreme, HasKeep, HasOrder, IsApproach, IsExtremeAt, IsOrderAt}
use Rattle.kin_tracker.specs.Questions.{IsRefusedAnswer, IsRefusedApproach, IsRefusedInside, IsRefusedList, IsRefusedLook, IsRefusedNearest, IsRefusedNumber}
use Rattle.kin_tracker.specs.Trackers.{IsHere, IsPresent}
use Rattle.kin_world.specs.Worlds.{World, IsNextMoment, IsWhole, world_scene, world_view}
use Rattle.kin_c.specs.declared.moment.KinMoment.{KinMoment}
use Rattle.kin_c.specs.declared.motion.KinMotion.{KinMotion}
use Rattle.kin_c.specs.declared.status.Status.{Status}
use Rattle.kin_c.specs.declared.status.Status.TheVariants.{Done, NoWorld, Refused, TooSmall}
use Rattle.kin_c.specs.Buffers.{Buffer, Puts, pair_list, pairs_list}
use Rattle.kin_c.specs.Calls.{Reads, Tells}
use Rattle.kin_c.specs.Moments.{IsMaybe, IsNoMoment, Names, moment_numbers}

-- ---- of the world and its points

-- whether it can be used
abbrev pub IsState : World → Status → Type 0
IsState w Done = IsWhole w
IsState w (Refused r) = IsRefusedLook w r
IsState w NoWorld = ⊥
IsState w TooSmall = ⊥

-- it is seen whether it can be used
abbrev pub Looks : World → World → Status → Type 0
Looks old new status = (new ≡ old) × IsState old status

-- one value that is given whole
abbrev pub Gives : {A : Type 0} → A → A → Status → Type 0
Gives value after status = (status ≡ Done) × (after ≡ value)

-- the moment now, in its canonical form
abbrev pub AsksNow : KinMoment → KinMoment → World → Status → Type 0
AsksNow before after w =
    Tells (λ m. IsHere w × (m ≡ w.moment) × IsCanonical m.at) (λ m. Gives (moment_numbers m) after) (IsRefusedLook w) (after ≡ before)

-- a moment, and whether there is one
pub record Slip : Type 0 where
  pub moment : KinMoment
  pub len : ℕ

abbrev pub slip : KinMoment → ℕ → Slip
slip moment len = record { moment = moment; len = len }

-- the moment is given, if there is one
abbrev pub GivesMaybe : Slip → Slip → Option Moment → Status → Type 0
GivesMaybe before after m status = (status ≡ Done) × IsMaybe m before.moment after.moment after.len

-- what comes next comes at this moment, or nothing comes
abbrev pub IsComing : World → Option Moment → Type 0
IsComing w m = MatchOption m (IsAtRest (world_view w)) (IsNextMoment (world_view w))

-- the moment of what comes next
abbrev pub AsksNext : Slip → Slip → World → Status → Type 0
AsksNext before after w = Tells (λ m. IsHere w × IsComing w m) (GivesMaybe before after) (IsRefusedLook w) (after ≡ before)

-- so many facts are live, and no more than may be
abbrev pub IsLiveCount : World → ℕ → Type 0
IsLiveCount w count = (count ≡ length w.live) × (count ≤ most_live w.size w.keeps (length (live_of w.motions)))

-- how many facts are live
abbrev pub AsksLive : ℕ → ℕ → World → Status → Type 0
AsksLive before after w = Tells (λ count. IsHere w × IsLiveCount w count) (λ count. Gives count after) (IsRefusedLook w) (after ≡ before)

-- a motion as numbers
abbrev pub motion_numbers : Course → KinMotion
motion_numbers m = record { x = m.x; y = m.y; u = m.u; v = m.v }

-- the motion now of a point
abbrev pub AsksMotion : ℕ → KinMotion → KinMotion → World → Status → Type 0
AsksMotion point before after w =
    Tells (λ m. IsHere w × (motion_of w.motions point ≡ Some m)) (λ m. Gives (motion_numbers m) after) (IsRefusedNumber w point) (after ≡ before)

-- when two points come near
abbrev pub AsksApproach : ℕ → ℕ → ℕ → Slip → Slip → World → Status → Type 0
AsksApproach one other distance before after w =
    Tells (λ m. IsHere w × (distance ≤ step_limit) × IsApproach w one other distance m) (GivesMaybe before after)
    (IsRefusedApproach w one other distance) (after ≡ before)

-- ---- of structures

-- an order
abbrev pub AsksOrder : ℕ → Buffer ℕ → Buffer ℕ → World → Status → Type 0
AsksOrder s before after w =
    Tells (λ list. IsHere w × IsOrderAt w s list) (λ list. Puts list before after) (IsRefusedList w (HasOrder w s)) (after ≡ before)

-- an extreme point
abbrev pub AsksExtreme : ℕ → Buffer ℕ → Buffer ℕ → World → Status → Type 0
AsksExtreme s before after w = Tells (λ point. IsHere w × IsExtremeAt w s point) (λ point. Puts (option_to_list point) before after)
    (IsRefusedAnswer w (HasExtreme w s)) (after ≡ before)

-- what is kept of this kind is answered so
abbrev pub IsKept : World → Keep → Type 0 → Type 0
IsKept w kind answer = (IsHere w × HasKeep w kind) × answer

-- the hull
abbrev pub AsksHull : Buffer ℕ → Buffer ℕ → World → Status → Type 0
AsksHull before after w = Tells (λ list. IsKept w keep.Hull (IsHullCycle (world_scene w) list)) (λ list. Puts list before after)
    (IsRefusedList w (HasKeep w keep.Hull)) (after ≡ before)

-- the closest pair
abbrev pub AsksClosest : Buffer ℕ → Buffer ℕ → World → Status → Type 0
AsksClosest before after w = Tells (λ pair. IsKept w keep.Closest (IsClosest (world_scene w) pair)) (λ pair. Puts (pair_list pair) before after)
    (IsRefusedAnswer w (HasKeep w keep.Closest)) (after ≡ before)

-- a rectangle
abbrev pub rectangle : ℤ → ℤ → ℤ → ℤ → Rect
rectangle x1 x2 y1 y2 = record { x1 = x1; x2 = x2; y1 = y1; y2 = y2 }

-- the points in a rectangle
abbrev pub AsksInside : Rect → Buffer ℕ → Buffer ℕ → World → Status → Type 0
AsksInside rect before after w =
    Tells (λ list. (IsHere w × IsRectInRange rect × HasKeep w keep.Range) × (list ≡ points_in w.motions w.moment rect)) (λ list. Puts list before after)
    (IsRefusedInside w rect) (after ≡ before)

-- the nearest other point
abbrev pub AsksNearest : ℕ → Buffer ℕ → Buffer ℕ → World → Status → Type 0
AsksNearest point before after w =
    Tells (λ other. (IsHere w × HasKeep w keep.Nearest × IsPresent w point) × IsNearest (world_scene w) point other)
    (λ other. Puts (option_to_list other) before after) (IsRefusedNearest w point) (after ≡ before)

-- the farthest pair
abbrev pub AsksFarthest : Buffer ℕ → Buffer ℕ → World → Status → Type 0
AsksFarthest before after w = Tells (λ pair. IsKept w keep.Diameter (IsFarthest (world_scene w) pair)) (λ pair. Puts (pair_list pair) before after)
    (IsRefusedAnswer w (HasKeep w keep.Diameter)) (after ≡ before)

-- these are the overlaps of the boxes that are kept
abbrev pub AreOverlaps : World → List (ℕ × ℕ) → Type 0
AreOverlaps world pairs =
    (place : ℕ) (width height : ℤ) → slice_get world.keeps place ≡ Some (keep.Boxes width height) → ListsOverlaps (world_scene world) width height pairs

-- the pairs of points whose boxes overlap, both numbers of each
abbrev pub AsksOverlaps : Buffer ℕ → Buffer ℕ → World → Status → Type 0
AsksOverlaps before after w = Tells (λ pairs. (IsHere w × HasBoxes w) × AreOverlaps w pairs) (λ pairs. Puts (pairs_list pairs) before after)
    (IsRefusedList w (HasBoxes w)) (after ≡ before)

-- ---- of a moment

-- memory is wanting
abbrev pub IsNoMemory : Refusal → Type 0
IsNoMemory r = r ≡ NoMemory

-- its text as a script has it, and a zero
abbrev pub Spells : Buffer ℕ → Buffer ℕ → Moment → Status → Type 0
Spells before after m = Tells (λ text. text ≡ moment_text m ++ 0 ∷ []) (λ text. Puts text before after) IsNoMemory (after ≡ before)

-- the same of a moment that is given as numbers
abbrev pub Prints : KinMoment → Buffer ℕ → Buffer ℕ → Status → Type 0
Prints k before after = Reads (Names k) (IsNoMoment k) (after ≡ before) (Spells before after)
