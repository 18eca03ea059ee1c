-- A tree over the places in F, in one row of nodes: the root is node 1, the halves of node v are 2v and 2v + 1, and the leaf of place p is node room + p.
use Rattle.std.specs.Prelude.{◌≡◌, ℕ, zero, suc, ◌+◌, ◌*◌, ◌/◌, ◌<◌, ◌≤◌, ◌⊎◌, List, Option, Some, None, length, option_map, slice_get, slice_index_or}
use Rattle.kin_rank.specs.declared.leaders.Leaders.{Leaders}
use Rattle.kin_rank.specs.Leading.{sole, joined, IsKnown}

-- the node so many levels above
abbrev pub up : ℕ → ℕ → ℕ
up zero v = v
up (suc h) v = up h v / 2

-- what a node holds
abbrev pub at_node : List (Option Leaders) → ℕ → Option Leaders
at_node nodes v = slice_index_or nodes v None

-- the leaders of both halves together
abbrev pub joined_at : List ℕ → List ℕ → List (Option Leaders) → ℕ → Option Leaders
joined_at g t nodes v = joined g t (at_node nodes (2 * v)) (at_node nodes (2 * v + 1))

-- what the leaf of a place holds
abbrev pub leaf : List ℕ → ℕ → Option Leaders
leaf f p = option_map sole (slice_get f p)

-- each node that isn't a leaf holds the leaders of its halves together, but for some
pub record IsJoinedBut (g t : List ℕ) (nodes : List (Option Leaders)) (spoilt : ℕ → Type 0) : Type 0 where
  pub count : length nodes ≡ 2 * length g
  pub known : (v : ℕ) → IsKnown (length g) (at_node nodes v)
  pub joins : (v : ℕ) → 0 < v → v < length g → (at_node nodes v ≡ joined_at g t nodes v) ⊎ spoilt v

-- no node
abbrev pub NoNode : ℕ → Type 0
NoNode v = ⊥

-- the node is above one of the nodes from a up to b, or is one of these
pub record IsAbove (a b v : ℕ) : Type 0 where
  pub levels : ℕ
  pub low : up levels a ≤ v
  pub high : v ≤ up levels b

-- the leaves are those of the list, but for some places
abbrev pub AreLeavesBut : List ℕ → ℕ → List (Option Leaders) → (ℕ → Type 0) → Type 0
AreLeavesBut f room nodes spare = (p : ℕ) → p < room → (at_node nodes (room + p) ≡ leaf f p) ⊎ spare p

-- the leaves are as they were
abbrev pub AreSameLeaves : ℕ → List (Option Leaders) → List (Option Leaders) → Type 0
AreSameLeaves room old new = (v : ℕ) → room ≤ v → at_node new v ≡ at_node old v

-- the nodes so many levels above both, which are apart below
pub record IsClimb (a b x y : ℕ) : Type 0 where
  pub levels : ℕ
  pub from_a : x ≡ up levels a
  pub from_b : y ≡ up levels b
  pub apart : (k : ℕ) → k < levels → up k a ≡ up k b → ⊥

-- the lowest node above both, or one of them
abbrev pub IsMeeting : ℕ → ℕ → ℕ → Type 0
IsMeeting a b v = IsClimb a b v v

-- the tree of a list
pub record IsTree (f g t : List ℕ) (nodes : List (Option Leaders)) : Type 0 where
  pub leaves : AreLeavesBut f (length g) nodes NoNode
  pub joins : IsJoinedBut g t nodes NoNode

-- the node is this far above the leaves
abbrev pub IsAt : ℕ → ℕ → ℕ → Type 0
IsAt room zero v = (room ≤ v) × (v < 2 * room)
IsAt room (suc h) v = IsAt room h (2 * v) × IsAt room h (2 * v + 1)

-- the number is at a place under the node
pub record IsUnder (f : List ℕ) (room height v x : ℕ) : Type 0 where
  pub place : ℕ
  pub at : slice_get f place ≡ Some x
  pub above : up height (room + place) ≡ v
