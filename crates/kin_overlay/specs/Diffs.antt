-- Lists whose common numbers are in one order.
use Rattle.std.specs.Prelude.{◌≡◌, ℕ, ◌+◌, false, List}
use Rattle.kin_motion.specs.Edits.{Edit, all_edited, dropped_by, put_by, AreFitting}
pub use Rattle.kin_motion.specs.KeptOrder.{KeepOrder}
use Rattle.kin_motion.specs.Numbers.{is_in, IsIn}

-- the edits put no number that they drop
abbrev pub ArePutApart : List Edit → List ℕ → Type 0
ArePutApart es xs = (x : ℕ) → IsIn x (put_by es) → is_in x (dropped_by es xs) ≡ false

-- the edit, so many places later
abbrev pub later : ℕ → Edit → Edit
later n e = record e { place = n + e.place }

-- the edits lead from one list to the other; where neither has a number twice and the numbers that both have are in the same order in both, they put no number that they drop
pub record IsDiff (es : List Edit) (old new : List ℕ) : Type 0 where
  pub lead : all_edited es old ≡ new
  pub fit : AreFitting es old
  pub apart : KeepOrder old new → ArePutApart es old
