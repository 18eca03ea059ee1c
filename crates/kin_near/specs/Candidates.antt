-- What holds of candidates in octants and of the closest pair, as statements.
use Rattle.std.specs.Prelude.{◌≡◌, ℕ, ◌<◌, Bool, true, ◌&&◌, Some, slice_get, ◌⊎◌}
use Rattle.kin_algebra.specs.declared.sign.Sign.TheVariants.{Zero, Plus}
use Rattle.kin_motion.specs.declared.form.Form.TheVariants.{Dist}
use Rattle.kin_motion.specs.Journal.{same_sign}
use Rattle.kin_motion.specs.Scene.{Scene, IsReal, x_sign, y_sign}
use Rattle.kin_motion.specs.Octants.{Octant, octants, is_in_octant, comes_after, IsCandidate}
use Rattle.kin_motion.specs.ClosestPairs.{IsClosestPair}

-- both are at one place
abbrev pub AreCoincident : Scene → ℕ → ℕ → Type 0
AreCoincident s p q = (x_sign s p q ≡ Zero) × (y_sign s p q ≡ Zero)

-- the same as a test
abbrev pub is_there : Scene → ℕ → ℕ → Bool
is_there s p q = same_sign (x_sign s p q) Zero && same_sign (y_sign s p q) Zero

-- of two members of an octant the one that comes first in its third order is nearer to the other than the apex is, or it is at the apex's place
abbrev pub FirstIsNearer : Type 0
FirstIsNearer =
    (s : Scene) (n : ℕ) (w : Octant) (p c q : ℕ) → IsReal s → slice_get octants n ≡ Some w
    → is_in_octant s w p c ≡ true → is_in_octant s w p q ≡ true → comes_after s w.third c q ≡ true
    → (s.sign (Dist c q p q) ≡ Plus) ⊎ AreCoincident s p c

-- one of both is the candidate of the other in one of the octants 0 to 3
pub record IsCandidatePair (s : Scene) (i j : ℕ) : Type 0 where
  pub n : ℕ
  pub low : n < 4
  pub octant : Octant
  pub known : slice_get octants n ≡ Some octant
  pub candidate : IsCandidate s octant i j ⊎ IsCandidate s octant j i

-- of the closest pair one is the candidate of the other
abbrev pub ClosestIsCandidate : Type 0
ClosestIsCandidate = (s : Scene) (i j : ℕ) → IsReal s → IsClosestPair s i j → IsCandidatePair s i j
