-- What the sweep of both chains and the tournament of its cells determine, as statements.
use Rattle.std.specs.Prelude.{ℕ, ◌+◌, List, ◌++◌, map, reverse, Option}
use Rattle.kin_motion.specs.declared.fact.Placed.{Placed}
use Rattle.kin_motion.specs.Agreements.{FitsSize}
use Rattle.kin_motion.specs.ClosestPairs.{Near}
use Rattle.kin_motion.specs.Contents.{IsSettledTournament, IsSettledDiameter}
use Rattle.kin_motion.specs.DiameterFacts.{IsDiameterFact}
use Rattle.kin_motion.specs.Farthest.{IsFarthest, farness_key}
use Rattle.kin_motion.specs.Kinetics.{AllHold, HaveSameLive}
use Rattle.kin_motion.specs.Merges.{Breakpoint, slopes_from}
use Rattle.kin_motion.specs.Parts.{moved_by}
use Rattle.kin_motion.specs.Scene.{Scene, IsReal, placed_at}
use Rattle.kin_motion.specs.Sets.{ListsExactly}
use Rattle.kin_motion.specs.Sweeps.{AreChains, IsSwept, cell_pairs, AreCellSlots, two_in}

-- where the tournament of the cells of the sweep is settled, so is the farthest pair
abbrev pub DiameterIsSettled : Type 0
DiameterIsSettled =
    (size : ℕ) (s : Scene) (upper lower : List ℕ) (es : List Breakpoint) (slots : List (Option Near)) (winner : ℕ → Option Near) (pairs : List Placed)
    → IsReal s → FitsSize size s → IsSwept s upper lower es → AreCellSlots size (cell_pairs upper (reverse lower) es) slots
    → IsSettledTournament s farness_key (size + 1) slots winner pairs
    → IsSettledDiameter s size (two_in (winner 1)) (map (placed_at s 0) (slopes_from es) ++ map (moved_by 1) pairs)

-- where both chains are those of another scene too, and the slopes along their sweep have their signs there, it is their sweep there
abbrev pub SweepIsDetermined : Type 0
SweepIsDetermined = (v w : Scene) (upper lower : List ℕ) (es : List Breakpoint) → IsReal w → IsSwept v upper lower es → AreChains w upper lower
    → AllHold w (map (placed_at v 0) (slopes_from es)) → IsSwept w upper lower es

-- where the same numbers are live, all with slots, both chains are the same, and all facts of the farthest pair hold, it is the farthest pair there, and the
-- facts are those of the farthest pair there
abbrev pub DiameterIsDetermined : Type 0
DiameterIsDetermined =
    (size : ℕ) (v w : Scene) (upper lower : List ℕ) (pair : Option (ℕ × ℕ)) (facts : List Placed)
    → IsReal v → IsReal w → FitsSize size v → HaveSameLive v w → AreChains v upper lower → AreChains w upper lower
    → IsFarthest v pair → ListsExactly facts (IsDiameterFact size v) → AllHold w facts
    → IsFarthest w pair × ListsExactly facts (IsDiameterFact size w)
