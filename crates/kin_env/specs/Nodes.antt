-- What is read off the nodes of the tree.
use Rattle.std.specs.Prelude.{ℕ, List, [], Option, Some, None, slice_get}
use Rattle.kin_motion.specs.declared.fact.Placed.{Placed}
use Rattle.kin_motion.specs.Edits.{Edit}
use Rattle.kin_overlay.specs.Overlays.{Merge}
use Rattle.kin_env.specs.declared.node.Node.{Node}

-- the chain of a merge, where there is one, or else the chain that is passed on
abbrev pub chain_with : Option Merge → List ℕ → List ℕ
chain_with None xs = xs
chain_with (Some m) xs = m.chain

-- the facts of a merge, where there is one
abbrev pub facts_with : Option Merge → List Placed
facts_with None = []
facts_with (Some m) = m.facts

-- the chain of a node
abbrev pub chain_of : Node → List ℕ
chain_of n = chain_with n.merge n.passed.items

-- the same of the node of this number, if there is one
abbrev pub merge_from : Option Node → Option Merge
merge_from None = None
merge_from (Some n) = n.merge

-- what it passes on
abbrev pub passed_from : Option Node → List ℕ
passed_from None = []
passed_from (Some n) = n.passed.items

-- the edits that the node above hasn't taken in
abbrev pub edits_from : Option Node → List Edit
edits_from None = []
edits_from (Some n) = n.edits.items

-- the failed facts that wait
abbrev pub failed_from : Option Node → List Placed
failed_from None = []
failed_from (Some n) = n.failed.items

-- by number
abbrev pub merge_at : List Node → ℕ → Option Merge
merge_at ns v = merge_from (slice_get ns v)

abbrev pub passed_at : List Node → ℕ → List ℕ
passed_at ns v = passed_from (slice_get ns v)

abbrev pub chain_at : List Node → ℕ → List ℕ
chain_at ns v = chain_with (merge_at ns v) (passed_at ns v)

abbrev pub edits_at : List Node → ℕ → List Edit
edits_at ns v = edits_from (slice_get ns v)

abbrev pub failed_at : List Node → ℕ → List Placed
failed_at ns v = failed_from (slice_get ns v)

abbrev pub facts_at : List Node → ℕ → List Placed
facts_at ns v = facts_with (merge_at ns v)
