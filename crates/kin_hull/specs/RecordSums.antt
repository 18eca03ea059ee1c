-- The touched records of a merge, of a tree of merges and of a hull, and how many facts and signs they bound.
use Rattle.std.specs.Prelude.{◌≡◌, ℕ, ◌+◌, ◌*◌, ◌-◌, ◌^◌, ◌<◌, ◌≤◌, List, length, sum_by, ◌⊎◌}
use Rattle.kin_motion.specs.declared.fact.Placed.{Placed}
use Rattle.kin_motion.specs.Agreements.{FitsSize}
use Rattle.kin_motion.specs.Records.{IsTouchedCount}
use Rattle.kin_motion.specs.Chains.{IsUpperChain}
use Rattle.kin_motion.specs.Contents.{IsSettledMerge}
use Rattle.kin_motion.specs.Deltas.{Change}
use Rattle.kin_motion.specs.Kinetics.{HasChanged}
use Rattle.kin_motion.specs.Merges.{IsBreakpointList, IsTreeFact, IsHullFact, points_under}
use Rattle.kin_motion.specs.Numbers.{numbers_from}
use Rattle.kin_motion.specs.RecordFacts.{MergeState, records_in}
use Rattle.kin_motion.specs.Scene.{Scene, IsReal, reflected}
use Rattle.kin_motion.specs.Sets.{ListsExactly}

-- ---- states
-- a merge that is settled, with its facts, and its breakpoint list
pub record IsStateOf (m : MergeState) (part : ℕ) (facts : List Placed) : Type 0 where
  pub real : IsReal m.scene
  pub chain : List ℕ
  pub settled : IsSettledMerge m.scene m.a m.b chain part facts
  pub sorted : IsBreakpointList m.scene m.a m.b m.breakpoints

-- the merge at a node of a tree over 2^size slots, as a scene has it
pub record IsMergeAtNode (size : ℕ) (s : Scene) (node : ℕ) (m : MergeState) : Type 0 where
  pub scene : m.scene ≡ s
  pub a_chain : IsUpperChain s (points_under size s (2 * node)) m.a
  pub b_chain : IsUpperChain s (points_under size s (2 * node + 1)) m.b
  pub sorted : IsBreakpointList s m.a m.b m.breakpoints

-- at each inner node the state is that of the scene
abbrev pub AreMerges : ℕ → Scene → (ℕ → MergeState) → Type 0
AreMerges size s merges = (node : ℕ) → 0 < node → node < 2 ^ size → IsMergeAtNode size s node (merges node)

-- at each inner node the given number of records is touched
abbrev pub AreTouchedCounts : ℕ → (ℕ → MergeState) → (ℕ → MergeState) → (ℕ → ℕ) → Type 0
AreTouchedCounts size old new touched = (node : ℕ) → 0 < node → node < 2 ^ size → IsTouchedCount (records_in (old node)) (records_in (new node)) (touched node)

-- the sum over the inner nodes
abbrev pub sum_over_nodes : ℕ → (ℕ → ℕ) → ℕ
sum_over_nodes size count = sum_by count (numbers_from 1 (2 ^ size - 1))

-- a tree in two scenes, and how many records are touched at each node
pub record AreTreeStates (size : ℕ) (v w : Scene) (touched : ℕ → ℕ) : Type 0 where
  pub old : ℕ → MergeState
  pub new : ℕ → MergeState
  pub old_merges : AreMerges size v old
  pub new_merges : AreMerges size w new
  pub counts : AreTouchedCounts size old new touched

-- two real scenes whose live numbers have slots
pub record AreFitScenes (size : ℕ) (v w : Scene) : Type 0 where
  pub old_real : IsReal v
  pub new_real : IsReal w
  pub old_fits : FitsSize size v
  pub new_fits : FitsSize size w

-- ---- facts
-- at most n more facts are reported, dropped and born together
abbrev pub AtMostReported : Change → Change → ℕ → Type 0
AtMostReported before after n = length after.dropped + length after.born ≤ length before.dropped + length before.born + n

-- between two states of a tree at most three facts are reported for each record that a node has in one of them alone
abbrev pub FewTreeFactsAreReported : Type 0
FewTreeFactsAreReported =
    (size : ℕ) (v w : Scene) (touched : ℕ → ℕ) (old_facts new_facts : List Placed) (before after : Change) → AreFitScenes size v w → AreTreeStates size v w touched
    → ListsExactly old_facts (IsTreeFact size v) → ListsExactly new_facts (IsTreeFact size w) → HasChanged old_facts new_facts before after
    → AtMostReported before after (3 * sum_over_nodes size touched)

-- the same of a hull, with the records of both its trees
abbrev pub FewHullFactsAreReported : Type 0
FewHullFactsAreReported =
    (size : ℕ) (v w : Scene) (upper lower : ℕ → ℕ) (old_facts new_facts : List Placed) (before after : Change) → AreFitScenes size v w
    → AreTreeStates size v w upper → AreTreeStates size (reflected v) (reflected w) lower
    → ListsExactly old_facts (IsHullFact size v) → ListsExactly new_facts (IsHullFact size w) → HasChanged old_facts new_facts before after
    → AtMostReported before after (3 * (sum_over_nodes size upper + sum_over_nodes size lower))

-- ---- signs
-- at most five signs are asked for each fact born and at most one for each fact dropped
abbrev pub IsPaidByFacts : Change → Change → ℕ → Type 0
IsPaidByFacts before after asked = asked + (5 * length before.born + length before.dropped) ≤ 5 * length after.born + length after.dropped

-- then at most fifteen are asked for each touched record, of a merge
abbrev pub FewMergeSigns : Type 0
FewMergeSigns =
    (old new : MergeState) (part n asked : ℕ) (old_facts new_facts : List Placed) (before after : Change) → IsStateOf old part old_facts → IsStateOf new part new_facts
    → HasChanged old_facts new_facts before after → IsTouchedCount (records_in old) (records_in new) n → IsPaidByFacts before after asked → asked ≤ 15 * n

-- of a tree
abbrev pub FewTreeSigns : Type 0
FewTreeSigns =
    (size asked : ℕ) (v w : Scene) (touched : ℕ → ℕ) (old_facts new_facts : List Placed) (before after : Change) → AreFitScenes size v w → AreTreeStates size v w touched
    → ListsExactly old_facts (IsTreeFact size v) → ListsExactly new_facts (IsTreeFact size w) → HasChanged old_facts new_facts before after
    → IsPaidByFacts before after asked → asked ≤ 15 * sum_over_nodes size touched

-- and of a hull
abbrev pub FewHullSigns : Type 0
FewHullSigns =
    (size asked : ℕ) (v w : Scene) (upper lower : ℕ → ℕ) (old_facts new_facts : List Placed) (before after : Change) → AreFitScenes size v w
    → AreTreeStates size v w upper → AreTreeStates size (reflected v) (reflected w) lower
    → ListsExactly old_facts (IsHullFact size v) → ListsExactly new_facts (IsHullFact size w) → HasChanged old_facts new_facts before after
    → IsPaidByFacts before after asked → asked ≤ 15 * (sum_over_nodes size upper + sum_over_nodes size lower)
