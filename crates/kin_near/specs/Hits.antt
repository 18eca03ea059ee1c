-- How the nearest other point of a point is found from the apexes whose candidate it is, as statements.
use Rattle.std.specs.Prelude.{◌≡◌, ◌≢◌, ℕ, ◌<◌, ◌≤◌, Option, Some, MatchOption, slice_get, ◌⊎◌}
use Rattle.kin_motion.specs.Nearest.{IsNearestTo}
use Rattle.kin_motion.specs.Numbers.{IsIn}
use Rattle.kin_motion.specs.Octants.{Octant, octants, IsCandidate, IsCandidateAnswer}
use Rattle.kin_motion.specs.Scene.{Scene, IsReal}
use Rattle.kin_near.specs.Candidates.{AreCoincident}

-- ---- down at one place
-- no lesser number is at the place of g
abbrev pub IsLeastThere : Scene → ℕ → Type 0
IsLeastThere s g = (k : ℕ) → IsIn k s.live → AreCoincident s g k → ¬ (k < g)

-- c is the next lesser number at the place of g
pub record IsNextBelow (s : Scene) (g c : ℕ) : Type 0 where
  pub live : IsIn c s.live
  pub there : AreCoincident s g c
  pub less : c < g
  pub next : (k : ℕ) → IsIn k s.live → AreCoincident s g k → k < g → k ≤ c

-- the candidate in octant 4 is the next lesser number at the apex's place, or the apex is the least there and its candidate, if there is one, is elsewhere
abbrev pub CandidateIsNextBelow : Type 0
CandidateIsNextBelow = (s : Scene) (o : Octant) (g : ℕ) (answer : Option ℕ) → IsReal s → slice_get octants 4 ≡ Some o → IsCandidateAnswer s o g answer
    → MatchOption answer (IsLeastThere s g) (λ c. IsNextBelow s g c ⊎ (IsLeastThere s g × ¬ (AreCoincident s g c)))

-- ---- hits
-- the way down from h ends at e for p: at the least number of the place, or above p where this is there and less
pub record IsWayDown (s : Scene) (p h e : ℕ) : Type 0 where
  pub live : IsIn e s.live
  pub other : e ≢ p
  pub there : AreCoincident s h e
  pub down : e ≤ h
  pub lowest : (k : ℕ) → IsIn k s.live → AreCoincident s h k → k < e → AreCoincident s h p × (p < e)

-- p is the candidate of h, and the way down from there ends at q
pub record IsHitFor (s : Scene) (p q h : ℕ) : Type 0 where
  pub live : IsIn h s.live
  pub n : ℕ
  pub octant : Octant
  pub known : slice_get octants n ≡ Some octant
  pub candidate : IsCandidate s octant h p
  pub ends : (e : ℕ) → IsWayDown s p h e → e ≡ q

-- one of the apexes whose candidate p is leads to the nearest other point of p
abbrev pub HitsSuffice : Type 0
HitsSuffice = (s : Scene) (p q : ℕ) → IsReal s → IsIn p s.live → IsNearestTo s p q → (h : ℕ) × IsHitFor s p q h
