-- What a node has of its halves, and what a visit makes of it.
use Rattle.std.specs.Prelude.{◌≡◌, ◌⊎◌, ℕ, ◌+◌, ◌*◌, ◌≤◌, List, [], length, Bool, true, false, Option, Some, None}
use Rattle.kin_motion.specs.declared.fact.Placed.{Placed}
use Rattle.kin_motion.specs.Chains.{IsUpperChain}
use Rattle.kin_motion.specs.Deltas.{Change}
use Rattle.kin_motion.specs.Edits.{Edit, all_edited, AreFitting}
use Rattle.kin_motion.specs.Forms.{names}
use Rattle.kin_motion.specs.Kinetics.{ListsFailing, HasChanged}
use Rattle.kin_motion.specs.Numbers.{is_in}
use Rattle.kin_motion.specs.Scene.{Scene, IsReal}
use Rattle.kin_overlay.specs.Diffs.{KeepOrder, ArePutApart}
use Rattle.kin_overlay.specs.Fingers.{AreLive, AreLess}
use Rattle.kin_overlay.specs.Overlays.{Merge, IsAtRest, IsSettled, IsUnedited}
use Rattle.kin_env.specs.declared.node.Node.{Node}
use Rattle.kin_env.specs.Nodes.{chain_of, facts_with}

-- edits lead from one chain to another; where its order is kept they put no number that they drop
pub record Leads (es : List Edit) (old new : List ℕ) : Type 0 where
  pub fit : AreFitting es old
  pub lead : all_edited es old ≡ new
  pub apart : KeepOrder old new → ArePutApart es old

-- the merge of the given chains a and b in the part v, at rest: settled in some real scene, and given no edit since
pub record IsMergeOf (v : ℕ) (m : Merge) (a b : List ℕ) : Type 0 where
  pub rest : IsAtRest m
  pub unedited : IsUnedited m
  pub part : m.part ≡ v
  pub a_is : m.a ≡ a
  pub b_is : m.b ≡ b
  pub before : Scene
  pub real : IsReal before
  pub settled : IsSettled m before

-- what a node has of the chains a and b of its halves: their merge, or where one is empty, the other one, which it passes on
abbrev pub IsJoint : ℕ → Option Merge → List ℕ → List ℕ → List ℕ → Type 0
IsJoint v None xs a b = ((a ≡ []) × (xs ≡ b)) ⊎ ((b ≡ []) × (xs ≡ a))
IsJoint v (Some m) xs a b = IsMergeOf v m a b

-- where there is a merge, it is settled in the scene
abbrev pub IsSettledThere : Scene → Option Merge → Type 0
IsSettledThere s None = Unit {0}
IsSettledThere s (Some m) = IsSettled m s

-- both are upper chains of live points, and every number of a is less than every number of b
pub record AreHalves (s : Scene) (a b : List ℕ) : Type 0 where
  pub a_chain : IsUpperChain s a a
  pub b_chain : IsUpperChain s b b
  pub a_live : AreLive s.live a
  pub b_live : AreLive s.live b
  pub less : AreLess a b

-- where there is a merge, the chains of its halves have kept their order since it was settled
abbrev pub HalvesKeepOrder : Option Merge → List ℕ → List ℕ → Type 0
HalvesKeepOrder None a b = Unit {0}
HalvesKeepOrder (Some m) a b = KeepOrder m.a a × KeepOrder m.b b

-- at most five signs were asked for each fact that was born, and at most one for each that was dropped
abbrev pub ArePaid : Change → Change → ℕ → ℕ → Type 0
ArePaid before after asked now = now + (5 * length before.born + length before.dropped) ≤ asked + (5 * length after.born + length after.dropped)

-- a spared fact names a number that isn't live
abbrev pub AreSpared : Scene → (Placed → Bool) → Type 0
AreSpared s spared = (p : Placed) → spared p ≡ true → (i : ℕ) × (names p.fact.form i ≡ true) × (is_in i s.live ≡ false)

-- before a merge is repaired: it is the merge of the chains that its halves had, the edits of the halves lead to those that they have now, and `failed` has its failed facts but for spared ones
pub record IsMergeTold (v : ℕ) (s : Scene) (m : Merge) (failed : List Placed) (left right : Node) : Type 0 where
  pub a : List ℕ
  pub b : List ℕ
  pub a_leads : Leads left.edits.items a (chain_of left)
  pub b_leads : Leads right.edits.items b (chain_of right)
  pub of : IsMergeOf v m a b
  pub less : AreLess (chain_of left) b
  pub halves : AreHalves s (chain_of left) (chain_of right)
  pub spared : Placed → Bool
  pub are_spared : AreSpared s spared
  pub failing : ListsFailing m.facts spared s failed

-- before a visit: the node has what its halves were, whose edits lead to what they are, and `failed` has its failed facts but for spared ones
pub record IsTold (v : ℕ) (s : Scene) (node left right : Node) : Type 0 where
  pub a : List ℕ
  pub b : List ℕ
  pub a_leads : Leads left.edits.items a (chain_of left)
  pub b_leads : Leads right.edits.items b (chain_of right)
  pub joint : IsJoint v node.merge node.passed.items a b
  pub less : AreLess (chain_of left) b
  pub halves : AreHalves s (chain_of left) (chain_of right)
  pub spared : Placed → Bool
  pub are_spared : AreSpared s spared
  pub failing : ListsFailing (facts_with node.merge) spared s node.failed.items

-- after a visit: the node has what its halves are, as it is now, and its edits lead there; what changed is reported
pub record IsVisited (v : ℕ) (s : Scene) (old new left right : Node) (before after : Change) : Type 0 where
  pub joint : IsJoint v new.merge new.passed.items (chain_of left) (chain_of right)
  pub now : IsSettledThere s new.merge
  pub leads : Leads new.edits.items (chain_of old) (chain_of new)
  pub failed : new.failed.items ≡ []
  pub changed : HasChanged (facts_with old.merge) (facts_with new.merge) before after

-- the merge, where there is one, is at rest
abbrev pub IsRestingWith : Option Merge → Type 0
IsRestingWith None = Unit {0}
IsRestingWith (Some m) = IsAtRest m
