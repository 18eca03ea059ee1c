-- What holds of all pairs of points and their candidates, as statements.
use Rattle.std.specs.Prelude.{◌≡◌, ℕ, ◌+◌, ◌*◌, ◌^◌, ◌<◌, ◌++◌, true, List, length, map, Option, Some, None, MatchOption, slice_get}
use Rattle.kin_motion.specs.declared.fact.Placed.{Placed}
use Rattle.kin_motion.specs.Agreements.{FitsSize}
use Rattle.kin_motion.specs.Contents.{IsSettledClosest, IsSettledTournament, IsSettledWedges}
use Rattle.kin_motion.specs.Parts.{moved_by}
use Rattle.kin_motion.specs.Scene.{Scene, IsReal}
use Rattle.kin_motion.specs.Tournaments.{IsBest, item_in}
use Rattle.kin_motion.specs.ClosestPairs.{Near, distance_key, pair_in, IsClosest}
use Rattle.kin_motion.specs.ClosestFacts.{near_of, AreNearSlots, IsClosestFact}
use Rattle.kin_motion.specs.Kinetics.{AllHold, HaveSameLive}
use Rattle.kin_motion.specs.Sets.{ListsExactly}

-- the best pair of all slots, or none where they are all empty
abbrev pub IsBestPair : Scene → List (Option Near) → Option Near → Type 0
IsBestPair s slots answer = MatchOption answer ((i : ℕ) → item_in slots i ≡ None) (IsBest s distance_key slots (λ i. true))

-- the best pair of a point and its candidate is the closest pair
abbrev pub BestPairIsClosest : Type 0
BestPairIsClosest = (size : ℕ) (s : Scene) (slots : List (Option Near)) (answer : Option Near) → IsReal s → FitsSize size s → AreNearSlots size s slots → IsBestPair s slots answer → IsClosest s (pair_in answer)

-- slot 8p + w holds the pair of p and its given candidate in octant w
pub record HoldCandidates (size : ℕ) (candidate : ℕ → ℕ → Option ℕ) (slots : List (Option Near)) : Type 0 where
  pub count : length slots ≡ 2 ^ (size + 3)
  pub each : (p w : ℕ) → p < 2 ^ size → w < 8 → slice_get slots (8 * p + w) ≡ Some (near_of (8 * p + w) p (candidate p w))

-- where the octants are settled, and so is the tournament of their candidate pairs, the closest pair is settled
abbrev pub ClosestIsSettled : Type 0
ClosestIsSettled =
    (size : ℕ) (s : Scene) (candidate : ℕ → ℕ → Option ℕ) (slots : List (Option Near)) (winner : ℕ → Option Near) (orders pairs : List Placed)
    → IsReal s → FitsSize size s → IsSettledWedges s size candidate orders → HoldCandidates size candidate slots
    → IsSettledTournament s distance_key (size + 3) slots winner pairs
    → IsSettledClosest s size (pair_in (winner 1)) (orders ++ map (moved_by 8) pairs)

-- where the same numbers are live, all with slots, and all facts of a closest pair hold, it is the closest pair there, and the facts are those of the closest pair there
abbrev pub ClosestIsDetermined : Type 0
ClosestIsDetermined = (size : ℕ) (v w : Scene) (pair : Option (ℕ × ℕ)) (facts : List Placed) → IsReal v → IsReal w → FitsSize size v → HaveSameLive v w
    → IsClosest v pair → ListsExactly facts (IsClosestFact size v) → AllHold w facts
    → IsClosest w pair × ListsExactly facts (IsClosestFact size w)
