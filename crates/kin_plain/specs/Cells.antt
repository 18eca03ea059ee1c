-- The cells of a sweep, one after another.
use Rattle.std.specs.Prelude.{ℕ, ◌+◌, ◌*◌, ◌^◌, ◌<◌, cond, List, ◌++◌, map}
use Rattle.kin_motion.specs.declared.fact.Placed.{Placed}
use Rattle.kin_motion.specs.Farthest.{farness_key}
use Rattle.kin_motion.specs.Merges.{Half.{A}, Breakpoint, is_of, slopes_from}
use Rattle.kin_motion.specs.Parts.{moved_by}
use Rattle.kin_motion.specs.Scene.{Scene, placed_at}
use Rattle.kin_motion.specs.Sweeps.{cell_pairs, cell_slots, sweep_of}
use Rattle.kin_motion.specs.Tournaments.{tournament_facts}

-- the slot of the cell that a breakpoint begins
abbrev pub slot_after : Breakpoint → ℕ
slot_after e = cond (is_of A e.half) (2 * e.right) (2 * e.left + 1)

-- the lower point that is current after a breakpoint, where q was before
abbrev pub lower_after : Breakpoint → ℕ → ℕ
lower_after e q = cond (is_of A e.half) q e.left

-- both points have numbers below 2^12
pub record AreEndsSmall (e : Breakpoint) : Type 0 where
  pub left_small : e.left < 2 ^ 12
  pub right_small : e.right < 2 ^ 12

-- the facts of the pairs of all cells
abbrev pub cell_facts : ℕ → Scene → List ℕ → List ℕ → List Breakpoint → List Placed
cell_facts size s upper back es = map (moved_by 1) (tournament_facts s farness_key (size + 1) (cell_slots size (cell_pairs upper back es)))

-- the facts of a sweep and of its cells
abbrev pub sweep_facts : ℕ → Scene → List ℕ → List ℕ → List Breakpoint → List Placed
sweep_facts size s upper back es = map (placed_at s 0) (slopes_from es) ++ cell_facts size s upper back es

-- the facts of two chains, from their sweep
abbrev pub swept_facts : ℕ → Scene → List ℕ → List ℕ → List Placed
swept_facts size s upper back = sweep_facts size s upper back (sweep_of s upper back)
