-- A slot is eight times its apex, and its octant.
use Rattle.std.proofs.Common.{◌≡◌, arith, ℕ, ◌+◌, ◌*◌, ◌%◌, ◌<◌, Some}
use Rattle.std.specs.Prelude.{slice_get}
use Rattle.std.proofs.lemmas.Option.{slice_get_within}
use Rattle.kin_motion.specs.Octants.{Octant, octants}

pub octant_again : (apex w : ℕ) → w < 8 → (8 * apex + w) % 8 ≡ w
octant_again apex w h = omega (arith, h)

pub below_eight : (w : ℕ) (o : Octant) → slice_get octants w ≡ Some o → w < 8
below_eight w o e = slice_get_within octants w o e
