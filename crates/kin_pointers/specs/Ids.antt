-- A set of ids in a list.
use Rattle.std.specs.Prelude.{◌≡◌, ◌≢◌, ℕ, ◌<◌, ◌≤◌, ◌^◌, List, length, Contains, Some, slice_get, ◌↔◌}
use Rattle.kin_motion.specs.Sets.{AreDistinct}

-- the id is gone, and each other one is there as before, each once
pub record IsWithout (old new : List ℕ) (id : ℕ) : Type 0 where
  pub left : (q : ℕ) → Contains new q ↔ ((q ≢ id) × Contains old q)
  pub once : AreDistinct new

-- each of so many first ids of the list is at its place
abbrev pub ArePlaced : ℕ → List ℕ → List ℕ → Type 0
ArePlaced known ids places = (place id : ℕ) → place < known → slice_get ids place ≡ Some id → slice_get places id ≡ Some place

-- there is room for the place of each id
abbrev pub HaveRoom : List ℕ → List ℕ → Type 0
HaveRoom ids places = (id : ℕ) → Contains ids id → id < length places

-- the ids are distinct, each has room for its place, and so many first ones are at their places
pub record IsIndexed (ids places : List ℕ) (known : ℕ) : Type 0 where
  pub once : AreDistinct ids
  pub room : HaveRoom ids places
  pub placed : ArePlaced known ids places
  pub within : known ≤ length ids
  pub few : length ids ≤ 2 ^ 32
