-- Where the tournament of the cells is settled, the farthest pair is.
use Rattle.std.proofs.Common.{◌≡◌, refl, arith, ℕ, ◌+◌, true, List, reverse}
use Rattle.std.specs.Prelude.{Option, Some, None}
use Rattle.std.proofs.lemmas.Option.{slice_get_within}
use Rattle.kin_motion.specs.ClosestPairs.{Near}
use Rattle.kin_motion.specs.Contents.{IsWinner}
use Rattle.kin_motion.specs.Farthest.{farness_key}
use Rattle.kin_motion.specs.Scene.{Scene}
use Rattle.kin_motion.specs.Sweeps.{cell_pairs, AreCellSlots}
use Rattle.kin_motion.specs.Tournaments.{is_under, item_in}
use Rattle.kin_motion.proofs.DiameterFactLaws.{sweep_exact}
use Rattle.kin_motion.proofs.NodeLaws.{held_slot}
use Rattle.kin_motion.proofs.UnderNodes.{under_root, root_low}
use Rattle.kin_far.specs.Diameters.{DiameterIsSettled}
use Rattle.kin_far.specs.FarCells.{IsBestCell}
use Rattle.kin_far.proofs.BestCells.{best_cell_is_farthest}

module _ (s : Scene) (size : ℕ) (cells : List Near) (slots : List (Option Near)) (filled : AreCellSlots size cells slots) where
  under : (i : ℕ) (b : Near) → item_in slots i ≡ Some b → is_under (size + 1) 1 i ≡ true
  under i b e = under_root (size + 1) i (let k = slice_get_within slots i (Some b) (held_slot slots i b e) in let c = filled.count in omega (arith, k, c))

  from_root : (winner : Option Near) → IsWinner s farness_key (size + 1) slots 1 winner → IsBestCell s slots winner
  from_root None none = λ i. at i (item_in slots i) refl
    where
      at : (i : ℕ) (x : Option Near) → item_in slots i ≡ x → item_in slots i ≡ None
      at i None e = e
      at i (Some b) e = none i (under i b e)
  from_root (Some m) best = record { slot = best.slot; among = refl; held = best.held; beats_others = λ i b n t e. best.beats_others i b n (under i b e) e }

pub diameter_is_settled : DiameterIsSettled
diameter_is_settled size s upper lower es slots winner pairs real fits swept filled tourney = record {
  pair = best_cell_is_farthest size s upper lower es slots (winner 1) real fits swept filled
      (from_root s size (cell_pairs upper (reverse lower) es) slots filled (winner 1) (tourney.winners 1 (omega arith) (root_low (size + 1))));
  exact = sweep_exact size s real upper lower es swept slots filled pairs tourney.exact;
}
