-- Slots that point at numbers.
use Rattle.std.specs.Prelude.{◌≡◌, ◌≢◌, ℕ, ◌+◌, ◌<◌, List, length, map, Option, Some, None, slice_get}
use Rattle.kin_motion.specs.Sets.{ListsExactly}
use Rattle.std.specs.Global.{Vec}
use Rattle.kin_pointers.specs.declared.pointers.Pointer.{Pointer}

-- at which number each slot points, if at any; the numbers are those below a bound
pub record Pointing : Type 0 where
  pub targets : List (Option ℕ)
  pub numbers : ℕ

-- the slot points at the number
abbrev pub PointsAt : Pointing → ℕ → ℕ → Type 0
PointsAt p number slot = slice_get p.targets slot ≡ Some (Some number)

-- these are the slots that point at the number, each once
abbrev pub AreSlotsOf : Pointing → ℕ → List ℕ → Type 0
AreSlotsOf p number slots = ListsExactly slots (PointsAt p number)

-- the number of what a slot holds
abbrev pub target_in : Option Pointer → Option ℕ
target_in None = None
target_in (Some p) = Some p.target

-- the items of each list
abbrev pub lists_of : List (Vec ℕ) → List (List ℕ)
lists_of lists = map (λ v. v.items) lists

-- what callers see of what is held
abbrev pub pointing : List (Option Pointer) → List (List ℕ) → Pointing
pointing held lists = record { targets = map target_in held; numbers = length lists }

-- the slot is at its place in the list of its number
pub record IsListed (lists : List (List ℕ)) (slot : ℕ) (p : Pointer) : Type 0 where
  pub slots : List ℕ
  pub listed : slice_get lists p.target ≡ Some slots
  pub at : slice_get slots p.place ≡ Some slot

-- each slot that points is in its list, and each list has only such slots, each at its place
pub record AreMutual (held : List (Option Pointer)) (lists : List (List ℕ)) : Type 0 where
  pub forth : (slot : ℕ) (p : Pointer) → slice_get held slot ≡ Some (Some p) → IsListed lists slot p
  pub back : (target place slot : ℕ) (slots : List ℕ) → slice_get lists target ≡ Some slots → slice_get slots place ≡ Some slot → slice_get held slot ≡ Some (Some (record { target = target; place = place }))

-- what was at a place was taken out, and the last one put there
pub record IsStruck (old new : List ℕ) (place last : ℕ) : Type 0 where
  pub count : length new + 1 ≡ length old
  pub last_is : slice_get old (length new) ≡ Some last
  pub others : (p : ℕ) → p < length new → p ≢ place → slice_get new p ≡ slice_get old p
  pub there : place < length new → slice_get new place ≡ Some last
