-- Instants by id: a cell has a fraction, or says that the instant is a root or a larger fraction, which is listed beside. No public clause cites this module.
use Rattle.std.specs.Prelude.{◌≡◌, ◌≢◌, ℕ, ◌<◌, List, length, slice_index_or, nat_eq, cond, pos}
use Rattle.kin_num.specs.declared.instant.Shape.{Shape}
use Rattle.kin_num.specs.declared.instant.Shape.TheVariants.{Ratio}
use Rattle.kin_queue.specs.declared.instants.Cell.{Cell}
use Rattle.kin_queue.specs.declared.instants.Instants.{Instants}

-- the cell of an id past the end: the fraction 0
abbrev pub no_cell : Cell
no_cell = record { n = pos 0; d = 1 }

-- the root of an id past the end: 0
abbrev pub no_root : Shape
no_root = Ratio (pos 0) (pos 1)

-- the fraction of a cell, or what is listed beside
abbrev pub instant_at : Cell → Shape → Shape
instant_at c root = cond (nat_eq c.d 0) root (Ratio c.n (pos c.d))

-- the instant of an id
abbrev pub instant_in : Instants → ℕ → Shape
instant_in s id = instant_at (slice_index_or s.cells.items id no_cell) (slice_index_or s.roots.items id no_root)

-- the id has an instant
pub record IsHeld (s : Instants) (id : ℕ) : Type 0 where
  pub celled : id < length s.cells.items
  pub rooted : (slice_index_or s.cells.items id no_cell).d ≡ 0 → id < length s.roots.items

-- the id has this instant
pub record IsHeldAt (s : Instants) (id : ℕ) (at : Shape) : Type 0 where
  pub held : IsHeld s id
  pub is : instant_in s id ≡ at

-- each other id that has an instant keeps it
abbrev pub AreKept : Instants → ℕ → Instants → Type 0
AreKept old id new = (k : ℕ) → IsHeld old k → k ≢ id → IsHeldAt new k (instant_in old k)

-- the new list begins with the old one
abbrev pub Extends : {A : Type 0} → List A → List A → Type 0
Extends {A} old new = (k : ℕ) → k < length old → (k < length new) × ((d : A) → slice_index_or new k d ≡ slice_index_or old k d)
