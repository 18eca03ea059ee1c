-- What a kinetic range means to its callers.
use Rattle.std.specs.Prelude.{◌≡◌, ℕ, ◌^◌, ℤ, pos, List, [], ◌∷◌, Bool, true, IsTrue}
use Rattle.kin_motion.specs.declared.fact.Placed.{Placed}
use Rattle.kin_motion.specs.declared.keep.Keep.{Keep}
use Rattle.kin_motion.specs.declared.keep.Keep.TheVariants as keep
use Rattle.kin_motion.specs.Contents.{IsSettledRange}
use Rattle.kin_motion.specs.Deltas.{Change}
use Rattle.kin_motion.specs.Numbers.{is_in, IsOnce}
use Rattle.kin_motion.specs.Scene.{Scene}
use Rattle.kin_list.specs.declared.mark.Mark.TheVariants.{Rest}
use Rattle.kin_list.specs.Keeping.{LeadsTo}
use Rattle.kin_list.specs.Listing.{Listing, HasMarked}
use Rattle.kin_wedge.specs.Costs.{AreFewBelow}
use Rattle.kin_wedge.specs.Parts.{facts_from, AreAtNought}

-- the kinetic lists along x and along y, and false after want of memory
pub record Ranging : Type 0 where
  pub by_x : Listing
  pub by_y : Listing
  pub whole : Bool

-- the facts of the list along x in part 0, and those of the list along y in part 1
abbrev pub facts_of : Ranging → List Placed
facts_of r = facts_from 0 (r.by_x ∷ r.by_y ∷ [])

-- the members, in their order along x
abbrev pub members_of : Ranging → List ℕ
members_of r = r.by_x.items

-- the two lists are the orders along x and along y, and the facts are theirs
abbrev pub IsSettledRanging : Ranging → Scene → Type 0
IsSettledRanging r s = IsSettledRange s r.by_x.items r.by_y.items (facts_of r)

-- no mark waits
pub record IsRangingAtRest (r : Ranging) : Type 0 where
  pub rest : r.by_x.mark ≡ Rest
  pub whole : IsTrue r.whole

-- its members are these numbers, once its mark is carried out
pub record HasMembers (r : Ranging) (set : List ℕ) : Type 0 where
  pub members : HasMarked r.by_x.mark (members_of r) set
  pub whole : IsTrue r.whole

-- the members as they will be are the live numbers
abbrev pub IsReadyRanging : Ranging → Scene → Type 0
IsReadyRanging r s = HasMembers r s.live

-- the list without members along a direction, for the numbers below 2^size
abbrev pub vacant_along : ℤ → ℤ → ℕ → Listing
vacant_along dx dy size = record { dx = dx; dy = dy; room = 2 ^ size; items = []; facts = []; swaps = []; mark = Rest }

-- the range without members
abbrev pub vacant_range : ℕ → Ranging
vacant_range size = record { by_x = vacant_along (pos 1) (pos 0) size; by_y = vacant_along (pos 0) (pos 1) size; whole = true }

-- what is true between two calls: the lists are along x and y, and have the same members, room and mark
pub record AreJoined (by_x by_y : Listing) : Type 0 where
  pub x_way : (by_x.dx ≡ pos 1) × (by_x.dy ≡ pos 0)
  pub y_way : (by_y.dx ≡ pos 0) × (by_y.dy ≡ pos 1)
  pub room : by_y.room ≡ by_x.room
  pub mark : by_y.mark ≡ by_x.mark
  pub same : (i : ℕ) → is_in i by_y.items ≡ is_in i by_x.items
  pub once : IsOnce by_y.items
  pub x_nought : AreAtNought by_x.facts
  pub y_nought : AreAtNought by_y.facts

-- the tests of the two orders are few: those of each are bounded as those of a list
abbrev pub AreFewTests : Ranging → Ranging → Change → Change → ℕ → ℕ → Type 0
AreFewTests old new out out' before after = AreFewBelow 2 old.by_x.mark (old.by_x.items ∷ old.by_y.items ∷ []) (new.by_x.items ∷ new.by_y.items ∷ []) out out' before after

-- ---- as the structure of a keep
-- a range is kept
abbrev pub IsRangeKeep : Keep → Type 0
IsRangeKeep keep.Range = Unit {0}
IsRangeKeep _ = ⊥

-- it is for the numbers below 2^size
abbrev pub IsRangingFor : Ranging → ℕ → Keep → Type 0
IsRangingFor r size kept = (kept ≡ keep.Range) × (r.by_x.room ≡ 2 ^ size)

-- it is for as many numbers
abbrev pub StaysRanging : Ranging → Ranging → Type 0
StaysRanging old new = new.by_x.room ≡ old.by_x.room

-- it was settled in this scene, and its mark leads from the live numbers there to these
pub record FollowsRanging (r : Ranging) (s : Scene) (live : List ℕ) : Type 0 where
  pub settled : IsSettledRanging r s
  pub led : LeadsTo r.by_x.mark s.live live
