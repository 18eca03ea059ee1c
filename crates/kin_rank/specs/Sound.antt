-- What is true of the lists and their tree.
use Rattle.std.specs.Prelude.{◌≡◌, ℕ, ◌+◌, ◌^◌, ◌<◌, ◌≤◌, length}
use Rattle.kin_rank.specs.declared.lists.Lists.{Lists}
use Rattle.kin_rank.specs.Leading.{place_in}
use Rattle.kin_rank.specs.Orders.{IsPlaced}
use Rattle.kin_rank.specs.Ranking.{Ranking, AreSame}
use Rattle.kin_rank.specs.Trees.{IsJoinedBut, IsMeeting, IsTree, IsUnder}

-- three lists of the same numbers below 2^size, each number found by its places
pub record AreListed (b : Lists) : Type 0 where
  pub few : b.size ≤ 12
  pub f_room : length b.f.places.items ≡ 2 ^ b.size
  pub g_room : length b.g.places.items ≡ 2 ^ b.size
  pub t_room : length b.t.places.items ≡ 2 ^ b.size
  pub f_placed : IsPlaced b.f.items.items b.f.places.items
  pub g_placed : IsPlaced b.g.items.items b.g.places.items
  pub t_placed : IsPlaced b.t.items.items b.t.places.items
  pub same_g : AreSame b.f.items.items b.g.items.items
  pub same_t : AreSame b.f.items.items b.t.items.items

-- and where there is a tree, it is that of the first list
pub record IsSound (b : Lists) : Type 0 where
  pub listed : AreListed b
  pub tree : 0 < length b.tree.nodes.items → IsTree b.f.items.items b.g.places.items b.t.places.items b.tree.nodes.items

-- the lists as callers see them
abbrev pub ranking : Lists → Ranking
ranking b = record { f = b.f.items.items; g = b.g.items.items; t = b.t.items.items; size = b.size }

-- the number is at a place under the node, and its place in G is greater than one
abbrev pub IsUnderAfter : Lists → ℕ → ℕ → ℕ → ℕ → Type 0
IsUnderAfter b height node above x = IsUnder b.f.items.items (2 ^ b.size) height node x × (above < place_in b.g.places.items x)

-- the leaf of a number
abbrev pub leaf_of : Lists → ℕ → ℕ
leaf_of b x = 2 ^ b.size + place_in b.f.places.items x

-- where there is a tree, no node is spoilt but the lowest one above the leaves of two numbers
abbrev pub IsSpoiltAbove : Lists → ℕ → ℕ → Type 0
IsSpoiltAbove b x y = 0 < length b.tree.nodes.items → (m : ℕ) → IsMeeting (leaf_of b x) (leaf_of b y) m
    → IsJoinedBut b.g.places.items b.t.places.items b.tree.nodes.items (λ v. v ≡ m)
