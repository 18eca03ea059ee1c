-- The pointers of an arena, and the lists that they make.
use Rattle.std.specs.Prelude.{◌≡◌, ◌≢◌, ℕ, zero, suc, ◌<◌, List, [], ◌∷◌, length, slice_get, slice_index_or, Option, Some, None, IsSome}
use Rattle.kin_links.specs.declared.node.Gap.{Gap}
use Rattle.kin_links.specs.declared.node.Gap.TheVariants.{Front, Behind}
use Rattle.kin_links.specs.declared.node.Node.{Node}
use Rattle.kin_links.specs.Family.{Linked}

-- how many lists there are, a bound of all nodes, the node after a gap, the gap before a node, and its item
pub record Pointers (T : Type 0) : Type 0 where
  pub count : ℕ
  pub room : ℕ
  pub next : Gap → Option ℕ
  pub prev : ℕ → Option Gap
  pub item : ℕ → Option T

module _ {T : Type 0} where
  abbrev pub next_in : Option (Node T) → Option ℕ
  next_in None = None
  next_in (Some n) = n.next

  abbrev pub prev_in : Option (Node T) → Option Gap
  prev_in None = None
  prev_in (Some n) = Some n.prev

  abbrev pub item_in : Option (Node T) → Option T
  item_in None = None
  item_in (Some n) = Some n.item

  abbrev pub node_behind : List (Option ℕ) → List (Option (Node T)) → Gap → Option ℕ
  node_behind firsts slots (Front l) = slice_index_or firsts l None
  node_behind firsts slots (Behind k) = next_in (slice_index_or slots k None)

  -- the pointers of first nodes and slots
  abbrev pub pointers : List (Option ℕ) → List (Option (Node T)) → Pointers T
  pointers firsts slots = record {
    count = length firsts;
    room = length slots;
    next = node_behind firsts slots;
    prev = λ k. prev_in (slice_index_or slots k None);
    item = λ k. item_in (slice_index_or slots k None);
  }

  -- the gap is of a list or a node that is there
  abbrev pub IsHeld : Pointers T → Gap → Type 0
  IsHeld g (Front l) = l < g.count
  IsHeld g (Behind k) = IsSome (g.item k)

  abbrev pub behind : Option (Linked T) → Option Gap
  behind None = None
  behind (Some x) = Some (Behind x.node)

  -- the gap at a place of list l
  abbrev pub gap_at : ℕ → List (Linked T) → ℕ → Option Gap
  gap_at l xs zero = Some (Front l)
  gap_at l xs (suc i) = behind (slice_get xs i)

  abbrev pub id_of : Option (Linked T) → Option ℕ
  id_of None = None
  id_of (Some x) = Some x.node

  -- the node at a place
  abbrev pub node_at : List (Linked T) → ℕ → Option ℕ
  node_at xs i = id_of (slice_get xs i)

  -- the pointers are those of these lists
  pub record IsFamily (g : Pointers T) (lists : List (List (Linked T))) : Type 0 where
    pub count : length lists ≡ g.count
    pub next : (l i : ℕ) (xs : List (Linked T)) (b : Gap) → slice_get lists l ≡ Some xs → gap_at l xs i ≡ Some b → g.next b ≡ node_at xs i
    pub prev : (l i : ℕ) (xs : List (Linked T)) (x : Linked T) → slice_get lists l ≡ Some xs → slice_get xs i ≡ Some x → g.prev x.node ≡ gap_at l xs i
    pub item : (l i : ℕ) (xs : List (Linked T)) (x : Linked T) → slice_get lists l ≡ Some xs → slice_get xs i ≡ Some x → g.item x.node ≡ Some x.item

  abbrev pub with_item : ℕ → Option T → List (Linked T) → List (Linked T)
  with_item k None rest = []
  with_item k (Some t) rest = record { node = k; item = t } ∷ rest

  abbrev pub visited : Option ℕ → (ℕ → Option T) → (ℕ → List (Linked T)) → List (Linked T)
  visited None item rest = []
  visited (Some k) item rest = with_item k (item k) (rest k)

  -- at most n nodes from a gap on
  abbrev pub walk : ℕ → Pointers T → Gap → List (Linked T)
  walk zero g b = []
  walk (suc n) g b = visited (g.next b) g.item (λ k. walk n g (Behind k))

  -- n lists from l on
  abbrev pub lists_from : Pointers T → ℕ → ℕ → List (List (Linked T))
  lists_from g l zero = []
  lists_from g l (suc n) = walk g.room g (Front l) ∷ lists_from g (suc l) n

  abbrev pub lists_of : Pointers T → List (List (Linked T))
  lists_of g = lists_from g 0 g.count

  -- the node after the gap is this one now; nothing else has changed
  pub record HasNext (old new : Pointers T) (b : Gap) (m : Option ℕ) : Type 0 where
    pub next : new.next b ≡ m
    pub others : (c : Gap) → c ≢ b → new.next c ≡ old.next c
    pub prev : (k : ℕ) → new.prev k ≡ old.prev k
    pub item : (k : ℕ) → new.item k ≡ old.item k
    pub count : new.count ≡ old.count

  -- the gap before the node, if there is one, is this one now; nothing else has changed
  pub record HasPrev (old new : Pointers T) (m : Option ℕ) (b : Gap) : Type 0 where
    pub prev : (k : ℕ) → m ≡ Some k → new.prev k ≡ Some b
    pub others : (k : ℕ) → m ≢ Some k → new.prev k ≡ old.prev k
    pub next : (c : Gap) → new.next c ≡ old.next c
    pub item : (k : ℕ) → new.item k ≡ old.item k
    pub count : new.count ≡ old.count

  -- what is before the node and what is after it are joined
  pub record IsDetached (old new : Pointers T) (node : ℕ) : Type 0 where
    pub gap : Gap
    pub at : old.prev node ≡ Some gap
    pub next : new.next gap ≡ old.next (Behind node)
    pub nexts : (c : Gap) → c ≢ gap → new.next c ≡ old.next c
    pub prev : (k : ℕ) → old.next (Behind node) ≡ Some k → new.prev k ≡ Some gap
    pub prevs : (k : ℕ) → old.next (Behind node) ≢ Some k → new.prev k ≡ old.prev k
    pub item : (k : ℕ) → new.item k ≡ old.item k
    pub count : new.count ≡ old.count

  -- the node is in the gap
  pub record IsAttached (old new : Pointers T) (node : ℕ) (gap : Gap) : Type 0 where
    pub next : new.next gap ≡ Some node
    pub after : new.next (Behind node) ≡ old.next gap
    pub nexts : (c : Gap) → c ≢ gap → c ≢ Behind node → new.next c ≡ old.next c
    pub prev : new.prev node ≡ Some gap
    pub before : (k : ℕ) → old.next gap ≡ Some k → new.prev k ≡ Some (Behind node)
    pub prevs : (k : ℕ) → old.next gap ≢ Some k → k ≢ node → new.prev k ≡ old.prev k
    pub item : (k : ℕ) → new.item k ≡ old.item k
    pub count : new.count ≡ old.count
