-- What holds of the farthest pair and of the cells of a sweep, as statements.
use Rattle.std.specs.Prelude.{◌≡◌, ℕ, true, List, reverse, Contains, Option, None, MatchOption}
use Rattle.kin_motion.specs.Agreements.{FitsSize}
use Rattle.kin_motion.specs.ClosestPairs.{Near}
use Rattle.kin_motion.specs.Farthest.{IsFarthestPair, IsFarthest, farness_key}
use Rattle.kin_motion.specs.Merges.{Breakpoint}
use Rattle.kin_motion.specs.Scene.{Scene, IsReal}
use Rattle.kin_motion.specs.Sweeps.{IsSwept, cell_pairs, AreCellSlots, two_in}
use Rattle.kin_motion.specs.Tournaments.{IsBest, item_in}

-- the farthest pair is that of a cell
abbrev pub FarthestIsCell : Type 0
FarthestIsCell = (s : Scene) (upper lower : List ℕ) (es : List Breakpoint) (i j : ℕ) → IsReal s → IsSwept s upper lower es → IsFarthestPair s i j
    → (slot : ℕ) × Contains (cell_pairs upper (reverse lower) es) (record { i = i; j = j; slot = slot })

-- the best pair of all slots, or none where they are all empty
abbrev pub IsBestCell : Scene → List (Option Near) → Option Near → Type 0
IsBestCell s slots answer = MatchOption answer ((i : ℕ) → item_in slots i ≡ None) (IsBest s farness_key slots (λ i. true))

-- the best pair of a cell is the farthest pair; where it is a number with itself, or there is none, there is no farthest pair
abbrev pub BestCellIsFarthest : Type 0
BestCellIsFarthest = (size : ℕ) (s : Scene) (upper lower : List ℕ) (es : List Breakpoint) (slots : List (Option Near)) (answer : Option Near)
    → IsReal s → FitsSize size s → IsSwept s upper lower es → AreCellSlots size (cell_pairs upper (reverse lower) es) slots → IsBestCell s slots answer
    → IsFarthest s (two_in answer)
