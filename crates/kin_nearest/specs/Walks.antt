-- A step down at one place.
use Rattle.std.specs.Prelude.{◌≢◌, ℕ, ◌<◌}
use Rattle.kin_motion.specs.Numbers.{IsIn}
use Rattle.kin_motion.specs.Scene.{Scene}
use Rattle.kin_near.specs.Candidates.{AreCoincident}
use Rattle.kin_near.specs.Hits.{IsNextBelow}

-- the next step down from g for p leads to c, the next lesser number at the place
pub record IsStepDown (s : Scene) (p g c : ℕ) : Type 0 where
  pub next : IsNextBelow s g c
  pub other : c ≢ p

-- no step leads down from g for p: no lesser number is at the place, unless p is there and less
abbrev pub IsLowestFor : Scene → ℕ → ℕ → Type 0
IsLowestFor s p g = (k : ℕ) → IsIn k s.live → AreCoincident s g k → k < g → AreCoincident s g p × (p < g)
