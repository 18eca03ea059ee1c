-- Which keep a kinetic list is for, over which numbers, and what it may spend.
use Rattle.std.specs.Prelude.{◌≡◌, ℕ, ◌^◌, List}
use Rattle.kin_motion.specs.declared.fact.Placed.{Placed}
use Rattle.kin_motion.specs.declared.keep.Keep.{Keep}
use Rattle.kin_motion.specs.declared.keep.Keep.TheVariants as keep
use Rattle.kin_motion.specs.Deltas.{Change}
use Rattle.kin_motion.specs.Numbers.{HasEntered}
use Rattle.kin_motion.specs.Scene.{Scene}
use Rattle.kin_list.specs.declared.mark.Mark.{Mark}
use Rattle.kin_list.specs.declared.mark.Mark.TheVariants.{Rest, Enters, Leaves, Broken}
use Rattle.kin_list.specs.Listing.{Listing, HasMarked, IsSettledListing, AreFewTests}

-- an order is kept
abbrev pub IsOrderKeep : Keep → Type 0
IsOrderKeep (keep.Order dx dy) = Unit {0}
IsOrderKeep _ = ⊥

-- it is the list of the keep, with room for the numbers below 2^size
abbrev pub IsListFor : Listing → ℕ → Keep → Type 0
IsListFor k size kept = (kept ≡ keep.Order k.dx k.dy) × (k.room ≡ 2 ^ size)

-- its members are these numbers, once its mark is carried out
abbrev pub HasMembers : Listing → List ℕ → Type 0
HasMembers k set = HasMarked k.mark k.items set

-- the direction and the room are the same
abbrev pub StaysList : Listing → Listing → Type 0
StaysList old new = (new.dx ≡ old.dx) × (new.dy ≡ old.dy) × (new.room ≡ old.room)

-- at most 8 tests for each fact reported and for each moved pair, and the halvings that the mark allows
abbrev pub SpendsList : Listing → Listing → List Placed → Change → Change → ℕ → ℕ → Type 0
SpendsList old new failed out out' before after = AreFewTests old.mark old.items new.items out out' before after

-- the mark leads from the first live numbers to the second
abbrev pub LeadsTo : Mark → List ℕ → List ℕ → Type 0
LeadsTo Rest before after = before ≡ after
LeadsTo (Enters i) before after = HasEntered i before after
LeadsTo (Leaves i) before after = HasEntered i after before
LeadsTo Broken before after = ⊥

-- it was settled in this scene, and its mark leads from the live numbers there to these
pub record FollowsList (k : Listing) (s : Scene) (live : List ℕ) : Type 0 where
  pub settled : IsSettledListing k s
  pub marked : LeadsTo k.mark s.live live
