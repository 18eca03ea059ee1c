-- Lists of different numbers that are found by their places.
use Rattle.std.specs.Prelude.{◌≡◌, ℕ, ◌≤◌, List, Some, length, slice_get}

-- each number of the list is at its place
pub record IsPlaced (items places : List ℕ) : Type 0 where
  pub there : (p x : ℕ) → slice_get items p ≡ Some x → slice_get places x ≡ Some p
  pub fits : length items ≤ length places
