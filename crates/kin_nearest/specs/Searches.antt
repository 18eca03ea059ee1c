-- What a search among the hits of a point has found.
use Rattle.std.specs.Prelude.{◌≡◌, ℕ, ◌+◌, ◌^◌, ◌<◌, ◌≤◌, List, sum_by, Option, Some, MatchOption}
use Rattle.kin_motion.specs.Nearest.{IsNearestTo}
use Rattle.kin_motion.specs.Scene.{Scene}
use Rattle.kin_motion.specs.Sets.{ListsExactly}
use Rattle.kin_near.specs.Hits.{IsWayDown}
use Rattle.kin_wedge.specs.Wedging.{Wedging, candidate_told}
use Rattle.kin_nearest.specs.Nearing.{count_lesser_there}

-- the candidate of h in an octant is p
abbrev pub IsHitIn : Wedging → ℕ → ℕ → ℕ → Type 0
IsHitIn k p w h = (h < 2 ^ k.size) × (candidate_told k h w ≡ Some p)

-- the best, if there is one, is the end of a way down for p: from it no step leads down
abbrev pub IsEnd : Scene → ℕ → Option ℕ → Type 0
IsEnd s p best = MatchOption best (Unit {0}) (λ b. IsWayDown s p b b)

-- a isn't passed over: if it is the nearest other point of p, then b is a
abbrev pub IsKept : Scene → ℕ → ℕ → ℕ → Type 0
IsKept s p a b = IsNearestTo s p a → b ≡ a

-- there is a best, and where the way down from h leads wasn't passed over
abbrev pub IsReached : Scene → ℕ → Option ℕ → ℕ → Type 0
IsReached s p best h = MatchOption best ⊥ (λ b. (e : ℕ) × IsWayDown s p h e × IsKept s p e b)

-- so many signs may be asked for the hits in an octant
pub record MayOctantAsk (k : Wedging) (s : Scene) (p w asked : ℕ) : Type 0 where
  pub apexes : List ℕ
  pub exactly : ListsExactly apexes (IsHitIn k p w)
  pub bound : asked ≤ sum_by (λ h. 4 + count_lesser_there s h) apexes
