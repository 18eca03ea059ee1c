use Rattle.std.proofs.Common.{◌≡◌, ◌≤◌, ◌<◌, ◌+◌, ◌-◌, ℕ, length}
use Rattle.std.specs.Prelude.{slice_get}
use Rattle.kin_pointers.proofs.ids.cover.Given as goal

abbrev pub invariant-places : goal.invariant-places
invariant-places l = (length l.fn.places.items ≤ length l.places.items) × ((j : ℕ) → j < length l.fn.places.items → slice_get l.places.items j ≡ slice_get l.fn.places.items j)

abbrev pub decreases-places : goal.decreases-places
decreases-places l = l.id + 1 - length l.places.items
