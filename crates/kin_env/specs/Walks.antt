-- The tree of nodes: what is true of it between calls and during a repair.
use Rattle.std.specs.Prelude.{◌≡◌, ◌≢◌, ℕ, ◌+◌, ◌*◌, ◌/◌, ◌^◌, ◌-◌, ◌<◌, ◌≤◌, Bool, true, false, cond, List, [], ◌∷◌, ◌++◌, length, flat_map, filter, nat_eq, None, slice_get, slice_index_or}
use Rattle.kin_motion.specs.declared.fact.Placed.{Placed}
use Rattle.kin_motion.specs.Chains.{IsUpperChain}
use Rattle.kin_motion.specs.Deltas.{Change}
use Rattle.kin_motion.specs.Kinetics.{ListsFailing, HasChanged}
use Rattle.kin_motion.specs.Merges.{points_under}
use Rattle.kin_motion.specs.Numbers.{is_in, IsIn, numbers_from}
use Rattle.kin_motion.specs.Scene.{Scene}
use Rattle.kin_motion.specs.Tournaments.{is_under}
use Rattle.kin_tourney.specs.declared.doubt.Doubt.TheVariants.{Clear, Here}
use Rattle.kin_overlay.specs.Diffs.{KeepOrder}
use Rattle.kin_tourney.specs.Standings.{IsClosed, doubt_in, doubt_count}
use Rattle.kin_env.specs.declared.node.Node.{Node}
use Rattle.kin_env.specs.declared.branches.Branches.{Branches}
use Rattle.kin_env.specs.Nodes.{merge_at, passed_at, chain_at, edits_at, failed_at, facts_at}
use Rattle.kin_env.specs.Joints.{Leads, IsJoint, IsSettledThere, AreSpared}

-- a number whose slot is under a node
abbrev pub IsSlotUnder : ℕ → ℕ → ℕ → Type 0
IsSlotUnder size v i = (i < 2 ^ size) × (is_under size v i ≡ true)

-- whether a slot holds its number
abbrev pub slot_in : List Bool → ℕ → Bool
slot_in slots i = slice_index_or slots i false

-- the chain of a slot
abbrev pub own_chain : ℕ → Bool → List ℕ
own_chain i held = cond held (i ∷ []) []

-- each list has its room, and the doubts are closed
pub record IsShaped (t : Branches) : Type 0 where
  pub some : 1 ≤ t.size
  pub small : t.size ≤ 15
  pub slots_room : length t.slots.items ≡ 2 ^ t.size
  pub nodes_room : length t.nodes.items ≡ 2 * 2 ^ t.size
  pub doubts_room : length t.doubts.items ≡ 2 * 2 ^ t.size
  pub closed : IsClosed t.doubts.items

-- an inner node has what its halves were before the edits that they have ready
pub record IsInner (size : ℕ) (ns : List Node) (v : ℕ) : Type 0 where
  pub a : List ℕ
  pub b : List ℕ
  pub a_leads : Leads (edits_at ns (2 * v)) a (chain_at ns (2 * v))
  pub b_leads : Leads (edits_at ns (2 * v + 1)) b (chain_at ns (2 * v + 1))
  pub joint : IsJoint v (merge_at ns v) (passed_at ns v) a b
  pub b_under : (i : ℕ) → IsIn i b → IsSlotUnder size (2 * v + 1) i

-- what is true of all nodes at any time
pub record AreJoined (size : ℕ) (ns : List Node) : Type 0 where
  pub under : (v i : ℕ) → 0 < v → IsIn i (chain_at ns v) → IsSlotUnder size v i
  pub inner : (v : ℕ) → 0 < v → v < 2 ^ size → IsInner size ns v
  pub leaves : (v : ℕ) → 2 ^ size ≤ v → merge_at ns v ≡ None
  pub no_root : merge_at ns 0 ≡ None

-- between calls: no edit and no failed fact waits, and a leaf that is clear has its slot's chain
pub record IsSound (t : Branches) : Type 0 where
  pub shape : IsShaped t
  pub joined : AreJoined t.size t.nodes.items
  pub quiet : (v : ℕ) → 0 < v → edits_at t.nodes.items v ≡ []
  pub unfailed : (v : ℕ) → 0 < v → failed_at t.nodes.items v ≡ []
  pub undoubted : (v : ℕ) → 0 < v → doubt_in t.doubts.items v ≢ Here
  pub clear_leaves : (i : ℕ) → i < 2 ^ t.size → doubt_in t.doubts.items (2 ^ t.size + i) ≡ Clear → chain_at t.nodes.items (2 ^ t.size + i) ≡ own_chain i (slot_in t.slots.items i)

-- the node is as it is in the scene: its chain is the upper chain of the points under it, and its merge is settled
pub record IsRight (s : Scene) (size : ℕ) (ns : List Node) (v : ℕ) : Type 0 where
  pub chain : IsUpperChain s (points_under size s v) (chain_at ns v)
  pub now : IsSettledThere s (merge_at ns v)

-- during a repair: a clear node is as it is in the scene, and edits and failed facts wait only at nodes in doubt
pub record IsWalked (s : Scene) (t : Branches) : Type 0 where
  pub shape : IsShaped t
  pub joined : AreJoined t.size t.nodes.items
  pub live : (i : ℕ) → is_in i s.live ≡ slot_in t.slots.items i
  pub quiet : (v : ℕ) → 0 < v → doubt_in t.doubts.items (v / 2) ≢ Here → edits_at t.nodes.items v ≡ []
  pub untold : (v : ℕ) → 0 < v → doubt_in t.doubts.items v ≢ Clear → edits_at t.nodes.items v ≡ []
  pub unfailed : (v : ℕ) → 0 < v → doubt_in t.doubts.items v ≢ Here → failed_at t.nodes.items v ≡ []
  pub spared : Placed → Bool
  pub are_spared : AreSpared s spared
  pub failing : (v : ℕ) → 0 < v → ListsFailing (facts_at t.nodes.items v) spared s (failed_at t.nodes.items v)
  pub right : (v : ℕ) → 0 < v → v < 2 * 2 ^ t.size → doubt_in t.doubts.items v ≡ Clear → IsRight s t.size t.nodes.items v

-- the edits of a node were taken in
pub record IsQuieted (old new : List Node) (v : ℕ) : Type 0 where
  pub merge : merge_at new v ≡ merge_at old v
  pub passed : passed_at new v ≡ passed_at old v
  pub failed : failed_at new v ≡ failed_at old v
  pub edits : edits_at new v ≡ []

-- a node was visited, or had no work
pub record IsWorked (s : Scene) (size v : ℕ) (old new : List Node) (before after : Change) : Type 0 where
  pub room : length new ≡ length old
  pub others : (u : ℕ) → u ≢ v → u / 2 ≢ v → slice_get new u ≡ slice_get old u
  pub halves : (u : ℕ) → u ≢ v → u / 2 ≡ v → IsQuieted old new u
  pub inner : v < 2 ^ size → IsJoint v (merge_at new v) (passed_at new v) (chain_at old (2 * v)) (chain_at old (2 * v + 1))
  pub leaf : 2 ^ size ≤ v → merge_at new v ≡ None
  pub leads : Leads (edits_at new v) (chain_at old v) (chain_at new v)
  pub failed : failed_at new v ≡ []
  pub right : IsRight s size new v
  pub changed : HasChanged (facts_at old v) (facts_at new v) before after

-- a node was renewed: it is clear, and only it and what is known of it has changed
pub record IsRenewed (v : ℕ) (old new : Branches) (before after : Change) : Type 0 where
  pub same_size : new.size ≡ old.size
  pub same_slots : new.slots.items ≡ old.slots.items
  pub cleared : doubt_in new.doubts.items v ≡ Clear
  pub others : (u : ℕ) → u ≢ v → doubt_in old.doubts.items u ≢ Clear → doubt_in new.doubts.items u ≢ Clear
  pub clear_stays : (u : ℕ) → u ≢ v → doubt_in old.doubts.items u ≡ Clear → doubt_in new.doubts.items u ≡ Clear
  pub count : doubt_count new.doubts.items + 1 ≡ doubt_count old.doubts.items
  pub merge : (u : ℕ) → u ≢ v → merge_at new.nodes.items u ≡ merge_at old.nodes.items u
  pub chain : (u : ℕ) → u ≢ v → chain_at new.nodes.items u ≡ chain_at old.nodes.items u
  pub changed : HasChanged (facts_at old.nodes.items v) (facts_at new.nodes.items v) before after

-- the facts of the tree, node by node
abbrev pub tree_facts : ℕ → List Node → List Placed
tree_facts size ns = flat_map (facts_at ns) (numbers_from 1 (2 ^ size - 1))

-- nodes without points
pub record AreBlank (ns : List Node) : Type 0 where
  pub merge : (v : ℕ) → merge_at ns v ≡ None
  pub passed : (v : ℕ) → passed_at ns v ≡ []
  pub edits : (v : ℕ) → edits_at ns v ≡ []
  pub failed : (v : ℕ) → failed_at ns v ≡ []

-- each node was given the facts of its part
pub record AreGiven (old new : List Node) (facts : List Placed) : Type 0 where
  pub merge : (v : ℕ) → merge_at new v ≡ merge_at old v
  pub passed : (v : ℕ) → passed_at new v ≡ passed_at old v
  pub edits : (v : ℕ) → edits_at new v ≡ edits_at old v
  pub failed : (v : ℕ) → failed_at new v ≡ failed_at old v ++ filter (λ p. nat_eq p.part v) facts

-- an inner node was visited, and the edits of its halves were taken in
pub record IsHeard (v : ℕ) (s : Scene) (old new : List Node) (before after : Change) : Type 0 where
  pub room : length new ≡ length old
  pub others : (u : ℕ) → u ≢ v → u ≢ 2 * v → u ≢ 2 * v + 1 → slice_get new u ≡ slice_get old u
  pub left : IsQuieted old new (2 * v)
  pub right : IsQuieted old new (2 * v + 1)
  pub joint : IsJoint v (merge_at new v) (passed_at new v) (chain_at old (2 * v)) (chain_at old (2 * v + 1))
  pub now : IsSettledThere s (merge_at new v)
  pub leads : Leads (edits_at new v) (chain_at old v) (chain_at new v)
  pub failed : failed_at new v ≡ []
  pub changed : HasChanged (facts_at old v) (facts_at new v) before after

-- at each node, the numbers that its chain has before and after are in the same order in both
abbrev pub NodesKeepOrder : ℕ → List Node → List Node → Type 0
NodesKeepOrder size old new = (v : ℕ) → 0 < v → v < 2 * 2 ^ size → KeepOrder (chain_at old v) (chain_at new v)

-- every node is as it is in the scene
abbrev pub AreRight : Scene → Branches → Type 0
AreRight s t = (v : ℕ) → 0 < v → v < 2 * 2 ^ t.size → IsRight s t.size t.nodes.items v

-- the edits of the root were let go
pub record IsAtPeace (old new : Branches) : Type 0 where
  pub same : new ≡ record old { nodes = new.nodes }
  pub room : length new.nodes.items ≡ length old.nodes.items
  pub others : (u : ℕ) → u ≢ 1 → slice_get new.nodes.items u ≡ slice_get old.nodes.items u
  pub root : IsQuieted old.nodes.items new.nodes.items 1

-- what a settle is given: the slots hold the live numbers, and `failed` has exactly the facts that don't hold, but for spared ones, which name a number that
-- isn't live
pub record IsReady (s : Scene) (t : Branches) (failed : List Placed) : Type 0 where
  pub live : (i : ℕ) → is_in i s.live ≡ slot_in t.slots.items i
  pub spared : Placed → Bool
  pub are_spared : AreSpared s spared
  pub failing : ListsFailing (tree_facts t.size t.nodes.items) spared s failed
