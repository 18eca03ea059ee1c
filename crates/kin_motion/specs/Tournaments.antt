-- Best items, and a tournament over slots.
use Rattle.std.specs.Prelude.{◌≡◌, ◌≢◌, ℕ, zero, suc, ◌+◌, ◌*◌, ◌/◌, ◌^◌, ◌-◌, Bool, cond, ◌||◌, nat_eq, List, [], ◌∷◌, flat_map, Option, Some, None, slice_index_or, IsTrue}
use Rattle.kin_algebra.specs.declared.sign.Sign.{Sign}
use Rattle.kin_motion.specs.declared.form.Form.{Form}
use Rattle.kin_motion.specs.declared.fact.Placed.{Placed}
use Rattle.kin_motion.specs.Numbers.{numbers_from}
use Rattle.kin_motion.specs.Scene.{Scene, placed_at}

-- how two items are compared: by which form, and whether the left one wins at its sign
pub record Key (Item : Type 0) : Type 0 where
  pub form : Item → Item → Form
  pub left_wins : Sign → Item → Item → Bool

-- item a beats item b: a wins as the left one against b as the right one
abbrev pub beats : {Item : Type 0} → Scene → Key Item → Item → Item → Bool
beats s key a b = key.left_wins (s.sign (key.form a b)) a b

-- what a slot holds
abbrev pub item_in : {Item : Type 0} → List (Option Item) → ℕ → Option Item
item_in slots i = slice_index_or slots i None

-- one of these slots holds a, and a beats what every other of these slots holds
pub record IsBest {Item : Type 0} (s : Scene) (key : Key Item) (slots : List (Option Item)) (is_among : ℕ → Bool) (a : Item) : Type 0 where
  pub slot : ℕ
  pub among : IsTrue (is_among slot)
  pub held : item_in slots slot ≡ Some a
  pub beats_others : (i : ℕ) (b : Item) → i ≢ slot → IsTrue (is_among i) → item_in slots i ≡ Some b → IsTrue (beats s key a b)

-- the same by computation
abbrev pub better_of : {Item : Type 0} → Scene → Key Item → Item → Option Item → Option Item
better_of s key a None = Some a
better_of s key a (Some b) = Some (cond (beats s key a b) a b)

-- the best of these items by computation
abbrev pub best_of : {Item : Type 0} → Scene → Key Item → List Item → Option Item
best_of s key [] = None
best_of s key (a ∷ items) = better_of s key a (best_of s key items)

-- node u is v, or comes to v when it is halved at most h times; node v has the halves 2v and 2v + 1
abbrev pub comes_to : ℕ → ℕ → ℕ → Bool
comes_to zero u v = nat_eq u v
comes_to (suc h) u v = nat_eq u v || comes_to h (u / 2) v

-- whether a slot is under a node, in a tree over 2^size slots; slot i is node 2^size + i
abbrev pub is_under : ℕ → ℕ → ℕ → Bool
is_under size v i = comes_to size (2 ^ size + i) v

-- the items of the slots under a node, from slot i on
abbrev pub items_from : {Item : Type 0} → ℕ → ℕ → ℕ → List (Option Item) → List Item
items_from size v i [] = []
items_from size v i (None ∷ slots) = items_from size v (i + 1) slots
items_from size v i (Some a ∷ slots) = cond (is_under size v i) (a ∷ items_from size v (i + 1) slots) (items_from size v (i + 1) slots)

-- the items of the slots under a node
abbrev pub items_under : {Item : Type 0} → ℕ → ℕ → List (Option Item) → List Item
items_under size v slots = items_from size v 0 slots

-- the fact of a node: the best of its left half against the best of its right half
pub record IsNodeFact {Item : Type 0} (s : Scene) (key : Key Item) (size : ℕ) (slots : List (Option Item)) (p : Placed) : Type 0 where
  pub left : Item
  pub right : Item
  pub left_best : IsBest s key slots (is_under size (2 * p.part)) left
  pub right_best : IsBest s key slots (is_under size (2 * p.part + 1)) right
  pub fact : p ≡ placed_at s p.part (key.form left right)

-- the same by computation
abbrev pub node_fact : {Item : Type 0} → Scene → Key Item → ℕ → Option Item → Option Item → List Placed
node_fact s key v (Some a) (Some b) = placed_at s v (key.form a b) ∷ []
node_fact s key v (Some a) None = []
node_fact s key v None b = []

-- the facts of all inner nodes by computation
abbrev pub tournament_facts : {Item : Type 0} → Scene → Key Item → ℕ → List (Option Item) → List Placed
tournament_facts s key size slots = flat_map (λ v. node_fact s key v (best_of s key (items_under size (2 * v) slots)) (best_of s key (items_under size (2 * v + 1) slots))) (numbers_from 1 (2 ^ size - 1))
