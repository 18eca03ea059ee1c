-- What taking out and putting in makes of the lists.
use Rattle.std.proofs.Common.{◌≡◌, ◌≢◌, refl, sym, ap, ap₂, ◌∙◌, subst, arith, List, ℕ, zero, suc, ◌<◌, ◌≤◌, ◌⊎◌, length, set, length-set, Some, None, Option, inl, inr}
use Rattle.std.specs.Prelude.{slice_get, insert, remove}
use Rattle.std.proofs.lemmas.Bool.{cases_eq, cases_order}
use Rattle.std.proofs.lemmas.Option.{slice_get_within, same_Some}
use Rattle.kin_algebra.proofs.Places.{get-insert_below, get-insert_at, get-insert_above, get-remove_below, get-remove_above, get-set_same, get-set_other}
use Rattle.kin_links.specs.declared.node.Gap.{Gap}
use Rattle.kin_links.specs.declared.node.Gap.TheVariants.{Front, Behind}
use Rattle.kin_links.specs.Family.{Linked, Standing}
use Rattle.kin_links.specs.Pointers.{Pointers, gap_at, behind, node_at, id_of, IsFamily, IsDetached, IsAttached}
use Rattle.kin_links.proofs.Counting.{stood}
use Rattle.kin_links.proofs.Reading.{same_gap, same_node, same_place}

module _ {T : Type 0} where
  -- a list of the changed lists is the changed one, or stood there before
  pub which_list : (lists : List (List (Linked T))) (l m : ℕ) (ys zs : List (Linked T)) → l < length lists → slice_get (set lists l ys) m ≡ Some zs → ((m ≡ l) × (ys ≡ zs)) ⊎ ((m ≢ l) × (slice_get lists m ≡ Some zs))
  which_list lists l m ys zs within e = at (cases_eq m l)
    where
      at : (m ≡ l) ⊎ (m ≢ l) → ((m ≡ l) × (ys ≡ zs)) ⊎ ((m ≢ l) × (slice_get lists m ≡ Some zs))
      at (inl s) = inl (s, same_Some ys zs (sym (get-set_same lists l ys within) ∙ sym (ap (slice_get (set lists l ys)) s) ∙ e))
      at (inr d) = inr (d, sym (get-set_other lists l m ys d) ∙ e)

  -- the node at a place that is named
  named : (xs : List (Linked T)) (i k : ℕ) → node_at xs i ≡ Some k → (x : Linked T) × (slice_get xs i ≡ Some x) × (x.node ≡ k)
  named xs i k e = at (slice_get xs i) refl e
    where
      at : (o : Option (Linked T)) → slice_get xs i ≡ o → id_of o ≡ Some k → (x : Linked T) × (slice_get xs i ≡ Some x) × (x.node ≡ k)
      at None f e = absurd cc
      at (Some x) f e = (x, f, same_Some _ _ e)

  -- a gap behind a node is there where the node is
  pub gap_within : (l i : ℕ) (xs : List (Linked T)) (b : Gap) → gap_at l xs i ≡ Some b → i ≤ length xs
  gap_within l zero xs b e = omega arith
  gap_within l (suc i) xs b e = at (slice_get xs i) refl e
    where
      at : (o : Option (Linked T)) → slice_get xs i ≡ o → behind o ≡ Some b → suc i ≤ length xs
      at None f e = absurd cc
      at (Some x) f e = let w = slice_get_within xs i x f in omega arith

  gap-remove_low : (l p i : ℕ) (xs : List (Linked T)) → i ≤ p → gap_at l (remove xs p) i ≡ gap_at l xs i
  gap-remove_low l p zero xs h = refl
  gap-remove_low l p (suc i) xs h = ap behind (get-remove_below p i xs (omega arith))

  gap-insert_low : (l p i : ℕ) (x : Linked T) (xs : List (Linked T)) → i ≤ p → p ≤ length xs → gap_at l (insert xs p x) i ≡ gap_at l xs i
  gap-insert_low l p zero x xs h w = refl
  gap-insert_low l p (suc i) x xs h w = ap behind (get-insert_below p i x xs (omega arith) w)

module _ {T : Type 0} (g : Pointers T) (lists : List (List (Linked T))) (family : IsFamily g lists) (l : ℕ) (xs : List (Linked T)) (listed : slice_get lists l ≡ Some xs) where
  there : l < length lists
  there = slice_get_within lists l xs listed

  module _ (h : Pointers T) (p : ℕ) (x : Linked T) (at-p : slice_get xs p ≡ Some x) (d : IsDetached g h x.node) where
    ys : List (Linked T)
    ys = remove xs p

    the_gap : gap_at l xs p ≡ Some d.gap
    the_gap = sym (family.prev l p xs x listed at-p) ∙ d.at

    follower : g.next (Behind x.node) ≡ node_at xs (suc p)
    follower = family.next l (suc p) xs (Behind x.node) listed (ap behind at-p)

    -- a gap elsewhere keeps its node
    next_kept : (m i : ℕ) (zs : List (Linked T)) (b : Gap) → slice_get lists m ≡ Some zs → gap_at m zs i ≡ Some b → ¬ ((m ≡ l) × (i ≡ p)) → h.next b ≡ node_at zs i
    next_kept m i zs b e f n = d.nexts b (λ s. n (same_gap g lists family m l i p zs xs b e listed f (the_gap ∙ ap (λ (c : Gap). Some c) (sym s)))) ∙ family.next m i zs b e f

    -- and so does a node that did not follow
    prev_kept : (m i : ℕ) (zs : List (Linked T)) (z : Linked T) → slice_get lists m ≡ Some zs → slice_get zs i ≡ Some z → ¬ ((m ≡ l) × (i ≡ suc p)) → h.prev z.node ≡ gap_at m zs i
    prev_kept m i zs z e f n =
        d.prevs z.node (λ s. let r = named xs (suc p) z.node (sym follower ∙ s) in n (same_place g lists family i (suc p) m l zs xs z r.0 e listed f r.1 (sym r.2)))
        ∙ family.prev m i zs z e f

    next_here : (i : ℕ) (b : Gap) → gap_at l ys i ≡ Some b → h.next b ≡ node_at ys i
    unfolding ys
    next_here i b e = at (cases_order i p)
      where
        at : (i ≡ p) ⊎ ((i < p) ⊎ (p < i)) → h.next b ≡ node_at ys i
        at (inl s) =
            let f : gap_at l xs p ≡ Some b = ap (gap_at l xs) (sym s) ∙ sym (gap-remove_low l p i xs (omega arith)) ∙ e in
            let same : b ≡ d.gap = same_Some b d.gap (sym f ∙ the_gap) in
            ap h.next same ∙ d.next ∙ follower ∙ ap id_of (sym (get-remove_above p p xs (omega arith))) ∙ ap (node_at (remove xs p)) (sym s)
        at (inr (inl lt)) =
            next_kept l i xs b listed (sym (gap-remove_low l p i xs (omega arith)) ∙ e) (λ s. omega (arith, lt, s.1)) ∙ ap id_of (sym (get-remove_below p i xs lt))
        at (inr (inr gt)) = above i gt e
          where
            above : (i : ℕ) → p < i → gap_at l (remove xs p) i ≡ Some b → h.next b ≡ node_at (remove xs p) i
            above zero gt e = absurd (omega arith)
            above (suc j) gt e =
                next_kept l (suc (suc j)) xs b listed (ap behind (sym (get-remove_above p j xs (omega arith))) ∙ e) (λ s. omega (arith, gt, s.1))
                ∙ ap id_of (sym (get-remove_above p (suc j) xs (omega arith)))

    prev_here : (i : ℕ) (z : Linked T) → slice_get ys i ≡ Some z → h.prev z.node ≡ gap_at l ys i
    unfolding ys
    prev_here i z e = at (cases_order i p)
      where
        at : (i ≡ p) ⊎ ((i < p) ⊎ (p < i)) → h.prev z.node ≡ gap_at l ys i
        at (inl s) =
            let f : slice_get xs (suc p) ≡ Some z = ap (λ k. slice_get xs (suc k)) (sym s) ∙ sym (get-remove_above p i xs (omega arith)) ∙ e in
            d.prev z.node (follower ∙ ap id_of f) ∙ sym the_gap ∙ sym (gap-remove_low l p p xs (omega arith)) ∙ ap (gap_at l (remove xs p)) (sym s)
        at (inr (inl lt)) =
            prev_kept l i xs z listed (sym (get-remove_below p i xs lt) ∙ e) (λ s. omega (arith, lt, s.1)) ∙ sym (gap-remove_low l p i xs (omega arith))
        at (inr (inr gt)) = above i gt e
          where
            above : (i : ℕ) → p < i → slice_get (remove xs p) i ≡ Some z → h.prev z.node ≡ gap_at l (remove xs p) i
            above zero gt e = absurd (omega arith)
            above (suc j) gt e =
                prev_kept l (suc (suc j)) xs z listed (sym (get-remove_above p (suc j) xs (omega arith)) ∙ e) (λ s. omega (arith, gt, s.1))
                ∙ ap behind (sym (get-remove_above p j xs (omega arith)))

    pub detach_family : IsFamily h (set lists l (remove xs p))
    unfolding ys
    detach_family = record {
      count = length-set lists l (remove xs p) ∙ family.count ∙ sym d.count;
      next = λ m i zs b e f. next_all m i zs b (which_list lists l m (remove xs p) zs there e) f;
      prev = λ m i zs z e f. prev_all m i zs z (which_list lists l m (remove xs p) zs there e) f;
      item = λ m i zs z e f. item_all m i zs z (which_list lists l m (remove xs p) zs there e) f;
    }
      where
        next_all : (m i : ℕ) (zs : List (Linked T)) (b : Gap) → ((m ≡ l) × (remove xs p ≡ zs)) ⊎ ((m ≢ l) × (slice_get lists m ≡ Some zs)) → gap_at m zs i ≡ Some b → h.next b ≡ node_at zs i
        next_all m i zs b (inl s) f = next_here i b (ap₂ (λ (k : ℕ) (vs : List (Linked T)). gap_at k vs i) (sym s.0) s.1 ∙ f) ∙ ap (λ (vs : List (Linked T)). node_at vs i) s.1
        next_all m i zs b (inr s) f = next_kept m i zs b s.1 f (λ t. s.0 t.0)

        prev_all : (m i : ℕ) (zs : List (Linked T)) (z : Linked T) → ((m ≡ l) × (remove xs p ≡ zs)) ⊎ ((m ≢ l) × (slice_get lists m ≡ Some zs)) → slice_get zs i ≡ Some z → h.prev z.node ≡ gap_at m zs i
        prev_all m i zs z (inl s) f = prev_here i z (ap (λ (vs : List (Linked T)). slice_get vs i) s.1 ∙ f) ∙ ap₂ (λ (k : ℕ) (vs : List (Linked T)). gap_at k vs i) (sym s.0) s.1
        prev_all m i zs z (inr s) f = prev_kept m i zs z s.1 f (λ t. s.0 t.0)

        item_all : (m i : ℕ) (zs : List (Linked T)) (z : Linked T) → ((m ≡ l) × (remove xs p ≡ zs)) ⊎ ((m ≢ l) × (slice_get lists m ≡ Some zs)) → slice_get zs i ≡ Some z → h.item z.node ≡ Some z.item
        item_all m i zs z (inl s) f = let r = stood xs p i z (ap (λ (vs : List (Linked T)). slice_get vs i) s.1 ∙ f) in d.item z.node ∙ family.item l r.place xs z listed r.at
        item_all m i zs z (inr s) f = d.item z.node ∙ family.item m i zs z s.1 f

    -- the node stands nowhere then
    pub detached_away : ¬ (Standing (set lists l (remove xs p)) x.node)
    detached_away s = at (which_list lists l s.list (remove xs p) s.items there s.listed)
      where
        at : ((s.list ≡ l) × (remove xs p ≡ s.items)) ⊎ ((s.list ≢ l) × (slice_get lists s.list ≡ Some s.items)) → ⊥
        at (inl e) =
            let r = stood xs p s.place _ (ap (λ (vs : List (Linked T)). slice_get vs s.place) e.1 ∙ s.at) in
            let q = (same_place g lists family r.place p l l xs xs _ x listed listed r.at at-p refl).1 in
            moved r.moved q
          where
            moved : {a : ℕ} → ((s.place < p) × (a ≡ s.place)) ⊎ ((p ≤ s.place) × (a ≡ suc s.place)) → a ≡ p → ⊥
            moved (inl t) q = omega (arith, t.0, t.1, q)
            moved (inr t) q = omega (arith, t.0, t.1, q)
        at (inr e) = e.0 (same_place g lists family s.place p s.list l s.items xs _ x e.1 listed s.at at-p refl).0

  module _ (h : Pointers T) (p : ℕ) (x : Linked T) (gap : Gap) (at-gap : gap_at l xs p ≡ Some gap) (away : ¬ (Standing lists x.node)) (known : g.item x.node ≡ Some x.item) (a : IsAttached g h x.node gap) where
    within : p ≤ length xs
    within = gap_within l p xs gap at-gap

    not_standing : (m i : ℕ) (zs : List (Linked T)) (z : Linked T) → slice_get lists m ≡ Some zs → slice_get zs i ≡ Some z → z.node ≢ x.node
    not_standing m i zs z e f s = away (record { list = m; place = i; items = zs; item = z.item; listed = e; at = f ∙ ap (λ (k : ℕ). Some (record { node = k; item = z.item })) s })

    not_behind : (m i : ℕ) (zs : List (Linked T)) (b : Gap) → slice_get lists m ≡ Some zs → gap_at m zs i ≡ Some b → b ≢ Behind x.node
    not_behind m zero zs b e f s = let c : Front m ≡ Behind x.node = same_Some _ _ f ∙ s in cc
    not_behind m (suc i) zs b e f s = at (slice_get zs i) refl f
      where
        at : (o : Option (Linked T)) → slice_get zs i ≡ o → behind o ≡ Some b → ⊥
        at None k f = absurd cc
        at (Some z) k f = not_standing m i zs z e k (same_node z.node x.node (same_Some _ _ f ∙ s))

    follows : g.next gap ≡ node_at xs p
    follows = family.next l p xs gap listed at-gap

    next_stays : (m i : ℕ) (zs : List (Linked T)) (b : Gap) → slice_get lists m ≡ Some zs → gap_at m zs i ≡ Some b → ¬ ((m ≡ l) × (i ≡ p)) → h.next b ≡ node_at zs i
    next_stays m i zs b e f n =
        a.nexts b (λ s. n (same_gap g lists family m l i p zs xs b e listed f (at-gap ∙ ap (λ (c : Gap). Some c) (sym s)))) (not_behind m i zs b e f) ∙ family.next m i zs b e f

    prev_stays : (m i : ℕ) (zs : List (Linked T)) (z : Linked T) → slice_get lists m ≡ Some zs → slice_get zs i ≡ Some z → ¬ ((m ≡ l) × (i ≡ p)) → h.prev z.node ≡ gap_at m zs i
    prev_stays m i zs z e f n =
        a.prevs z.node (λ s. let r = named xs p z.node (sym follows ∙ s) in n (same_place g lists family i p m l zs xs z r.0 e listed f r.1 (sym r.2))) (not_standing m i zs z e f)
        ∙ family.prev m i zs z e f

    next_new : (i : ℕ) (b : Gap) → gap_at l (insert xs p x) i ≡ Some b → h.next b ≡ node_at (insert xs p x) i
    next_new i b e = at (cases_order i p)
      where
        at : (i ≡ p) ⊎ ((i < p) ⊎ (p < i)) → h.next b ≡ node_at (insert xs p x) i
        at (inl s) =
            let f : gap_at l xs p ≡ Some b = ap (gap_at l xs) (sym s) ∙ sym (gap-insert_low l p i x xs (omega arith) within) ∙ e in
            let same : b ≡ gap = same_Some b gap (sym f ∙ at-gap) in
            ap h.next same ∙ a.next ∙ ap id_of (sym (get-insert_at p x xs within)) ∙ ap (node_at (insert xs p x)) (sym s)
        at (inr (inl lt)) =
            next_stays l i xs b listed (sym (gap-insert_low l p i x xs (omega arith) within) ∙ e) (λ s. omega (arith, lt, s.1)) ∙ ap id_of (sym (get-insert_below p i x xs lt within))
        at (inr (inr gt)) = above i gt e
          where
            further : (j : ℕ) → (j ≡ p) ⊎ ((j < p) ⊎ (p < j)) → p ≤ j → gap_at l (insert xs p x) (suc j) ≡ Some b → h.next b ≡ node_at (insert xs p x) (suc j)
            further j (inl s) w e =
                let f : Some (Behind x.node) ≡ Some b = sym (ap behind (ap (slice_get (insert xs p x)) s ∙ get-insert_at p x xs within)) ∙ e in
                ap h.next (sym (same_Some _ _ f)) ∙ a.after ∙ follows ∙ ap (node_at xs) (sym s) ∙ ap id_of (sym (get-insert_above p j x xs w within))
            further j (inr (inl lt)) w e = absurd (omega arith)
            further zero (inr (inr gt)) w e = absurd (omega arith)
            further (suc k) (inr (inr gt)) w e =
                next_stays l (suc k) xs b listed (ap behind (sym (get-insert_above p k x xs (omega arith) within)) ∙ e) (λ s. omega (arith, gt, s.1))
                ∙ ap id_of (sym (get-insert_above p (suc k) x xs w within))

            above : (i : ℕ) → p < i → gap_at l (insert xs p x) i ≡ Some b → h.next b ≡ node_at (insert xs p x) i
            above zero gt e = absurd (omega arith)
            above (suc j) gt e = further j (cases_order j p) (omega arith) e

    prev_new : (i : ℕ) (z : Linked T) → slice_get (insert xs p x) i ≡ Some z → h.prev z.node ≡ gap_at l (insert xs p x) i
    prev_new i z e = at (cases_order i p)
      where
        at : (i ≡ p) ⊎ ((i < p) ⊎ (p < i)) → h.prev z.node ≡ gap_at l (insert xs p x) i
        at (inl s) =
            let f : Some x ≡ Some z = sym (ap (slice_get (insert xs p x)) s ∙ get-insert_at p x xs within) ∙ e in
            ap (λ (v : Linked T). h.prev v.node) (sym (same_Some x z f)) ∙ a.prev ∙ sym at-gap ∙ sym (gap-insert_low l p p x xs (omega arith) within) ∙ ap (gap_at l (insert xs p x)) (sym s)
        at (inr (inl lt)) =
            prev_stays l i xs z listed (sym (get-insert_below p i x xs lt within) ∙ e) (λ s. omega (arith, lt, s.1)) ∙ sym (gap-insert_low l p i x xs (omega arith) within)
        at (inr (inr gt)) = above i gt e
          where
            further : (j : ℕ) → (j ≡ p) ⊎ ((j < p) ⊎ (p < j)) → p ≤ j → slice_get (insert xs p x) (suc j) ≡ Some z → h.prev z.node ≡ gap_at l (insert xs p x) (suc j)
            further j (inl s) w e =
                let f : slice_get xs j ≡ Some z = sym (get-insert_above p j x xs w within) ∙ e in
                a.before z.node (follows ∙ ap (node_at xs) (sym s) ∙ ap id_of f) ∙ sym (ap behind (ap (slice_get (insert xs p x)) s ∙ get-insert_at p x xs within))
            further j (inr (inl lt)) w e = absurd (omega arith)
            further zero (inr (inr gt)) w e = absurd (omega arith)
            further (suc k) (inr (inr gt)) w e =
                prev_stays l (suc k) xs z listed (sym (get-insert_above p (suc k) x xs w within) ∙ e) (λ s. omega (arith, gt, s.1))
                ∙ ap behind (sym (get-insert_above p k x xs (omega arith) within))

            above : (i : ℕ) → p < i → slice_get (insert xs p x) i ≡ Some z → h.prev z.node ≡ gap_at l (insert xs p x) i
            above zero gt e = absurd (omega arith)
            above (suc j) gt e = further j (cases_order j p) (omega arith) e

    item_new : (i : ℕ) (z : Linked T) → slice_get (insert xs p x) i ≡ Some z → h.item z.node ≡ Some z.item
    item_new i z e = at (cases_order i p)
      where
        at : (i ≡ p) ⊎ ((i < p) ⊎ (p < i)) → h.item z.node ≡ Some z.item
        at (inl s) =
            let f : Some x ≡ Some z = sym (ap (slice_get (insert xs p x)) s ∙ get-insert_at p x xs within) ∙ e in
            subst (λ (v : Linked T). h.item v.node ≡ Some v.item) (same_Some x z f) (a.item x.node ∙ known)
        at (inr (inl lt)) = a.item z.node ∙ family.item l i xs z listed (sym (get-insert_below p i x xs lt within) ∙ e)
        at (inr (inr gt)) = above i gt e
          where
            above : (i : ℕ) → p < i → slice_get (insert xs p x) i ≡ Some z → h.item z.node ≡ Some z.item
            above zero gt e = absurd (omega arith)
            above (suc j) gt e = a.item z.node ∙ family.item l j xs z listed (sym (get-insert_above p j x xs (omega arith) within) ∙ e)

    pub attach_family : IsFamily h (set lists l (insert xs p x))
    attach_family = record {
      count = length-set lists l (insert xs p x) ∙ family.count ∙ sym a.count;
      next = λ m i zs b e f. next_all m i zs b (which_list lists l m (insert xs p x) zs there e) f;
      prev = λ m i zs z e f. prev_all m i zs z (which_list lists l m (insert xs p x) zs there e) f;
      item = λ m i zs z e f. item_all m i zs z (which_list lists l m (insert xs p x) zs there e) f;
    }
      where
        next_all : (m i : ℕ) (zs : List (Linked T)) (b : Gap) → ((m ≡ l) × (insert xs p x ≡ zs)) ⊎ ((m ≢ l) × (slice_get lists m ≡ Some zs)) → gap_at m zs i ≡ Some b → h.next b ≡ node_at zs i
        next_all m i zs b (inl s) f = next_new i b (ap₂ (λ (k : ℕ) (vs : List (Linked T)). gap_at k vs i) (sym s.0) s.1 ∙ f) ∙ ap (λ (vs : List (Linked T)). node_at vs i) s.1
        next_all m i zs b (inr s) f = next_stays m i zs b s.1 f (λ t. s.0 t.0)

        prev_all : (m i : ℕ) (zs : List (Linked T)) (z : Linked T) → ((m ≡ l) × (insert xs p x ≡ zs)) ⊎ ((m ≢ l) × (slice_get lists m ≡ Some zs)) → slice_get zs i ≡ Some z → h.prev z.node ≡ gap_at m zs i
        prev_all m i zs z (inl s) f = prev_new i z (ap (λ (vs : List (Linked T)). slice_get vs i) s.1 ∙ f) ∙ ap₂ (λ (k : ℕ) (vs : List (Linked T)). gap_at k vs i) (sym s.0) s.1
        prev_all m i zs z (inr s) f = prev_stays m i zs z s.1 f (λ t. s.0 t.0)

        item_all : (m i : ℕ) (zs : List (Linked T)) (z : Linked T) → ((m ≡ l) × (insert xs p x ≡ zs)) ⊎ ((m ≢ l) × (slice_get lists m ≡ Some zs)) → slice_get zs i ≡ Some z → h.item z.node ≡ Some z.item
        item_all m i zs z (inl s) f = item_new i z (ap (λ (vs : List (Linked T)). slice_get vs i) s.1 ∙ f)
        item_all m i zs z (inr s) f = a.item z.node ∙ family.item m i zs z s.1 f
