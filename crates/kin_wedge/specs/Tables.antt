-- The candidates of the slots, as slots that point at each other.
use Rattle.std.specs.Prelude.{◌≡◌, ℕ, ◌*◌, ◌/◌, ◌%◌, ◌≤◌, ◌^◌, List, length, map, Option, Some, None, slice_get}

-- the number whose slot is pointed at: slot 8p + w points at slot 8q + w, where q is the candidate of p in octant w
abbrev pub number_of : Option ℕ → Option ℕ
number_of None = None
number_of (Some target) = Some (target / 8)

abbrev pub candidates_of : List (Option ℕ) → List (Option ℕ)
candidates_of targets = map number_of targets

-- eight slots for each number, each of which points at a slot of its own octant
pub record AreSlots (targets : List (Option ℕ)) : Type 0 where
  pub numbers : ℕ
  pub room : length targets ≡ 8 * numbers
  pub small : length targets ≤ 2 ^ 15
  pub octant : (slot target : ℕ) → slice_get targets slot ≡ Some (Some target) → target % 8 ≡ slot % 8
