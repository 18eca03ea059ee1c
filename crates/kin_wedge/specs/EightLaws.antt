-- The orders of an octant are of the parts 0 to 7.
use Rattle.std.proofs.Common.{◌≡◌, ℕ, Some}
use Rattle.std.specs.Prelude.{slice_get}
use Rattle.kin_motion.specs.Octants.{Octant, octants}
use Rattle.kin_motion.proofs.SameOctants.{three_of_eight}
use Rattle.kin_wedge.specs.Seen.{IsOfEight}

pub of_eight : (w : ℕ) (o : Octant) → slice_get octants w ≡ Some o → IsOfEight o
of_eight w o e = let h = three_of_eight w o e in record { first = h.0; second = h.1; third = h.2 }
