-- Lists used as sets.
use Rattle.std.specs.Prelude.{◌≡◌, ℕ, List, slice_get, Some, Contains, ◌↔◌}

-- no item is at two places
abbrev pub AreDistinct : {A : Type 0} → List A → Type 0
AreDistinct {A} xs = (i j : ℕ) (x : A) → slice_get xs i ≡ Some x → slice_get xs j ≡ Some x → i ≡ j

-- the list has exactly these, each once, in any order
pub record ListsExactly {A : Type 0} (xs : List A) (which : A → Type 0) : Type 0 where
  pub once : AreDistinct xs
  pub each : (x : A) → Contains xs x ↔ which x
