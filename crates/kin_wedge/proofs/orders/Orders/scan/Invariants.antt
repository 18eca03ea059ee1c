use Rattle.std.proofs.Common.{◌≡◌, ℕ, true, Some}
use Rattle.std.specs.Prelude.{slice_get}
use Rattle.kin_wedge.specs.Rows.{is_in_wedge}
use Rattle.kin_wedge.specs.Seen.{octant_seen, rows_of}
use Rattle.kin_wedge.specs.Scans.{IsAhead}
use Rattle.kin_wedge.proofs.orders.Orders.scan.Given as goal

abbrev pub invariant-loop-k : goal.invariant-loop-k
invariant-loop-k l = (q t : ℕ) → is_in_wedge (rows_of l.self.lists.items) (octant_seen l.octant) l.apex q ≡ true → slice_get l.items t ≡ Some q → IsAhead l.octant.third.from_end l.place l.k t
