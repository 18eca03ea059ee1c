-- The slots under a node, and its fact.
use Rattle.std.specs.Prelude.{ℕ, ◌+◌, ◌*◌, ◌^◌, ◌<◌, ◌≤◌, ◌↔◌, IsTrue, List, Option}
use Rattle.kin_motion.specs.declared.fact.Placed.{Placed}
use Rattle.kin_motion.specs.Scene.{Scene}
use Rattle.kin_motion.specs.Tournaments.{Key, best_of, is_under, items_under, node_fact}

-- that of the best of both its halves
abbrev pub fact_of_node : {Item : Type 0} → Scene → Key Item → ℕ → List (Option Item) → ℕ → List Placed
fact_of_node s key size slots v = node_fact s key v (best_of s key (items_under size (2 * v) slots)) (best_of s key (items_under size (2 * v + 1) slots))

-- of all slots, those from the first one on and before the end are under the node
abbrev pub AreUnder : ℕ → ℕ → ℕ → ℕ → Type 0
AreUnder size v first end = (i : ℕ) → i < 2 ^ size → IsTrue (is_under size v i) ↔ ((first ≤ i) × (i < end))
