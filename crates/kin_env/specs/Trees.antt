-- What an envelope tree means to its callers.
use Rattle.std.specs.Prelude.{◌≡◌, ℕ, ◌+◌, ◌*◌, ◌^◌, ◌<◌, Bool, not, ◌&&◌, List, [], length, map, filter, slice_index_or, IsTrue}
use Rattle.kin_motion.specs.declared.fact.Placed.{Placed}
use Rattle.kin_motion.specs.Agreements.{FitsSize}
use Rattle.kin_motion.specs.Chains.{IsUpperChain}
use Rattle.kin_motion.specs.Contents.{IsSettledTree}
use Rattle.kin_motion.specs.Merges.{points_under}
use Rattle.kin_motion.specs.Numbers.{is_in, numbers_from}
use Rattle.kin_motion.specs.Scene.{Scene}
use Rattle.kin_overlay.specs.Diffs.{KeepOrder}
use Rattle.kin_overlay.specs.Overlays.{names_any}
use Rattle.kin_env.specs.declared.branches.Branches.{Branches}
use Rattle.kin_env.specs.Nodes.{chain_of}
use Rattle.kin_env.specs.Walks.{slot_in, own_chain, tree_facts}

-- which slots are set, the chain of each node by its number, as it was settled last, the live facts, and false after want of memory
pub record Envelope : Type 0 where
  pub size : ℕ
  pub slots : List Bool
  pub chains : List (List ℕ)
  pub facts : List Placed
  pub whole : Bool

-- the chain of a node
abbrev pub chain_told : Envelope → ℕ → List ℕ
chain_told t v = slice_index_or t.chains v []

-- the chain of the root
abbrev pub top_of : Envelope → List ℕ
top_of t = chain_told t 1

-- the chain of the leaf of a slot: its number, where the slot was set when the tree was settled last
abbrev pub chain_of_slot : Envelope → ℕ → List ℕ
chain_of_slot t i = chain_told t (2 ^ t.size + i)

-- a number leaves where its slot was set and isn't any more
abbrev pub is_leaving : Envelope → ℕ → Bool
is_leaving t i = is_in i (chain_of_slot t i) && not (slot_in t.slots i)

-- the leaving numbers
abbrev pub leaving_of : Envelope → List ℕ
leaving_of t = filter (is_leaving t) (numbers_from 0 (2 ^ t.size))

-- whether the fact names a leaving number
abbrev pub names_leaving : Envelope → Placed → Bool
names_leaving t p = names_any p.fact.form (leaving_of t)

-- no mark waits: each slot is as it was when the tree was settled last
pub record IsEnvelopeAtRest (t : Envelope) : Type 0 where
  pub unmarked : (i : ℕ) → i < 2 ^ t.size → chain_of_slot t i ≡ own_chain i (slot_in t.slots i)
  pub room : length t.slots ≡ 2 ^ t.size
  pub whole : IsTrue t.whole

-- the set slots are the live numbers
pub record IsReadyEnvelope (t : Envelope) (s : Scene) : Type 0 where
  pub members : (i : ℕ) → is_in i s.live ≡ slot_in t.slots i
  pub whole : IsTrue t.whole

-- the root has the upper chain of all live numbers, each node that of the live numbers under it, and the facts are the definition's
pub record IsSettledEnvelope (t : Envelope) (s : Scene) : Type 0 where
  pub tree : IsSettledTree s t.size (top_of t) t.facts
  pub chains : (v : ℕ) → 0 < v → v < 2 * 2 ^ t.size → IsUpperChain s (points_under t.size s v) (chain_told t v)
  pub fits : FitsSize t.size s

-- at each node, the numbers that its chain has before and after are in the same order in both
abbrev pub ChainsKeepOrder : Envelope → Envelope → Type 0
ChainsKeepOrder old new = (v : ℕ) → 0 < v → v < 2 * 2 ^ old.size → KeepOrder (chain_told old v) (chain_told new v)

-- what callers see of the nodes of a tree
abbrev pub seen_as : Branches → Bool → Envelope
seen_as t whole = record { size = t.size; slots = t.slots.items; chains = map chain_of t.nodes.items; facts = tree_facts t.size t.nodes.items; whole = whole }
