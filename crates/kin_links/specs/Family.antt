-- Many lists in one arena, as a contract sees them: each is a list of nodes with their items.
use Rattle.std.specs.Prelude.{◌≡◌, ℕ, ◌+◌, ◌≤◌, List, length, slice_get, slice_set, insert, Some}

-- a node with its item
pub record Linked (T : Type 0) : Type 0 where
  pub node : ℕ
  pub item : T

-- where a node is
pub record Standing {T : Type 0} (lists : List (List (Linked T))) (node : ℕ) : Type 0 where
  pub list : ℕ
  pub place : ℕ
  pub items : List (Linked T)
  pub item : T
  pub listed : slice_get lists list ≡ Some items
  pub at : slice_get items place ≡ Some (record { node = node; item = item })

-- this node is at a place
abbrev pub IsNodeAt : {T : Type 0} → List (Linked T) → ℕ → ℕ → Type 0
IsNodeAt {T} items place node = (x : Linked T) × (slice_get items place ≡ Some x) × (x.node ≡ node)

-- no node is at two places
abbrev pub AreApart : {T : Type 0} → List (List (Linked T)) → Type 0
AreApart {T} lists = (node : ℕ) (s t : Standing lists node) → (s.list ≡ t.list) × (s.place ≡ t.place)

-- a new node was put in at a place of a list, and every other list is as it was
pub record HasLinked {T : Type 0} (old new : List (List (Linked T))) (list place node : ℕ) (item : T) : Type 0 where
  pub items : List (Linked T)
  pub listed : slice_get old list ≡ Some items
  pub within : place ≤ length items
  pub fresh : ¬ (Standing old node)
  pub linked : new ≡ slice_set old list (insert items place (record { node = node; item = item }))

-- x and y at a place and the next have exchanged their places
abbrev pub exchanged : {T : Type 0} → List (Linked T) → ℕ → Linked T → Linked T → List (Linked T)
exchanged items place x y = slice_set (slice_set items place y) (place + 1) x
