-- The facts of the farthest pair: slopes along the sweep of both chains, and the tournament of the pairs of its cells.
use Rattle.std.specs.Prelude.{◌≡◌, ℕ, ◌+◌, List, ◌++◌, map, reverse, Contains, Option, ◌⊎◌}
use Rattle.kin_motion.specs.declared.form.Form.{Form}
use Rattle.kin_motion.specs.declared.fact.Placed.{Placed}
use Rattle.kin_motion.specs.Chains.{upper_chain_of, lower_chain_of}
use Rattle.kin_motion.specs.ClosestPairs.{Near}
use Rattle.kin_motion.specs.Farthest.{farness_key}
use Rattle.kin_motion.specs.Merges.{Breakpoint, slopes_from}
use Rattle.kin_motion.specs.Parts.{moved_by}
use Rattle.kin_motion.specs.Scene.{Scene, placed_at}
use Rattle.kin_motion.specs.Sweeps.{sweep_of, IsSwept, cell_pairs, AreCellSlots, cell_slots}
use Rattle.kin_motion.specs.Tournaments.{IsNodeFact, tournament_facts}

-- the slopes of two neighbours of the sweep that are of different chains
pub record IsSweepFact (s : Scene) (p : Placed) : Type 0 where
  pub upper : List ℕ
  pub lower : List ℕ
  pub breakpoints : List Breakpoint
  pub swept : IsSwept s upper lower breakpoints
  pub form : Form
  pub listed : Contains (slopes_from breakpoints) form
  pub fact : p ≡ placed_at s 0 form

-- a fact of the tournament of the pairs of all cells
pub record IsCellFact (size : ℕ) (s : Scene) (p : Placed) : Type 0 where
  pub upper : List ℕ
  pub lower : List ℕ
  pub breakpoints : List Breakpoint
  pub swept : IsSwept s upper lower breakpoints
  pub slots : List (Option Near)
  pub filled : AreCellSlots size (cell_pairs upper (reverse lower) breakpoints) slots
  pub node : Placed
  pub fact : IsNodeFact s farness_key (size + 1) slots node
  pub placed : p ≡ moved_by 1 node

-- a fact of the sweep, or of the tournament of its cells
abbrev pub IsDiameterFact : ℕ → Scene → Placed → Type 0
IsDiameterFact size s p = IsSweepFact s p ⊎ IsCellFact size s p

-- the same by computation, from both chains
abbrev pub facts_of_sweep : ℕ → Scene → List ℕ → List ℕ → List Breakpoint → List Placed
facts_of_sweep size s upper lower es =
    map (placed_at s 0) (slopes_from es)
    ++ map (moved_by 1) (tournament_facts s farness_key (size + 1) (cell_slots size (cell_pairs upper (reverse lower) es)))

-- all facts by computation
abbrev pub diameter_facts : ℕ → Scene → List Placed
diameter_facts size s =
    facts_of_sweep size s (upper_chain_of s s.live) (lower_chain_of s s.live) (sweep_of s (upper_chain_of s s.live) (reverse (lower_chain_of s s.live)))
