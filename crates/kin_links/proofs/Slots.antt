-- A slot of a node that stands in no list.
use Rattle.std.proofs.Common.{◌≡◌, ◌≢◌, refl, sym, ap, ap₂, ◌∙◌, subst, arith, List, [], ◌∷◌, ℕ, zero, suc, ◌<◌, length, Some, None, Option, IsSome}
use Rattle.std.specs.Prelude.{slice_get, slice_index_or}
use Rattle.std.proofs.lemmas.Option.{slice_get_within, same_Some}
use Rattle.slab.specs.Slab.{Slab, Updates}
use Rattle.kin_links.specs.declared.node.Gap.{Gap}
use Rattle.kin_links.specs.declared.node.Gap.TheVariants.{Front, Behind}
use Rattle.kin_links.specs.declared.node.Node.{Node}
use Rattle.kin_links.specs.Family.{Linked, Standing}
use Rattle.kin_links.specs.Pointers.{Pointers, pointers, next_in, prev_in, item_in, gap_at, behind, IsHeld, IsFamily, lists_of}
use Rattle.kin_links.proofs.Reading.{read_family, same_node}

module _ {T : Type 0} where
  -- what is not at this node is as it was
  pub record AreSameBut (g h : Pointers T) (node : ℕ) : Type 0 where
    pub next : (c : Gap) → c ≢ Behind node → h.next c ≡ g.next c
    pub prev : (k : ℕ) → k ≢ node → h.prev k ≡ g.prev k
    pub item : (k : ℕ) → k ≢ node → h.item k ≡ g.item k
    pub count : h.count ≡ g.count

  -- a change of one slot
  pub same_but : (firsts : List (Option ℕ)) (old new : Slab (Node T)) (key : ℕ) (slot : Option (Node T)) → Updates old new key slot → AreSameBut (pointers firsts old.slots) (pointers firsts new.slots) key
  same_but firsts old new key slot u = record {
    next = nexts;
    prev = λ k n. ap prev_in (u.others k n);
    item = λ k n. ap item_in (u.others k n);
    count = refl;
  }
    where
      nexts : (c : Gap) → c ≢ Behind key → (pointers firsts new.slots).next c ≡ (pointers firsts old.slots).next c
      nexts (Front l) n = refl
      nexts (Behind k) n = ap next_in (u.others k (λ e. n (ap (λ (j : ℕ). Behind j) e)))

  -- the lists stay, where the node stands in none
  pub other_slot : (g h : Pointers T) (lists : List (List (Linked T))) (node : ℕ) → IsFamily g lists → AreSameBut g h node → ¬ (Standing lists node) → IsFamily h lists
  other_slot g h lists node family same away = record {
    count = family.count ∙ sym same.count;
    next = λ l i xs b e f. same.next b (not_behind l i xs b e f) ∙ family.next l i xs b e f;
    prev = λ l i xs x e f. same.prev x.node (elsewhere l i xs x e f) ∙ family.prev l i xs x e f;
    item = λ l i xs x e f. same.item x.node (elsewhere l i xs x e f) ∙ family.item l i xs x e f;
  }
    where
      elsewhere : (l i : ℕ) (xs : List (Linked T)) (x : Linked T) → slice_get lists l ≡ Some xs → slice_get xs i ≡ Some x → x.node ≢ node
      elsewhere l i xs x e f s = away (record { list = l; place = i; items = xs; item = x.item; listed = e; at = f ∙ ap (λ (k : ℕ). Some (record { node = k; item = x.item })) s })

      not_behind : (l i : ℕ) (xs : List (Linked T)) (b : Gap) → slice_get lists l ≡ Some xs → gap_at l xs i ≡ Some b → b ≢ Behind node
      not_behind l zero xs b e f s = let c : Front l ≡ Behind node = same_Some _ _ f ∙ s in cc
      not_behind l (suc i) xs b e f s = at (slice_get xs i) refl f
        where
          at : (o : Option (Linked T)) → slice_get xs i ≡ o → behind o ≡ Some b → ⊥
          at None k f = absurd cc
          at (Some x) k f = elsewhere l i xs x e k (same_node x.node node (same_Some _ _ f ∙ s))

  -- an item is at a node below the room
  within_room : (slots : List (Option (Node T))) (k : ℕ) (t : T) → item_in (slice_index_or slots k None) ≡ Some t → k < length slots
  within_room [] k t e = absurd cc
  within_room (s ∷ slots) zero t e = omega arith
  within_room (s ∷ slots) (suc k) t e = let r = within_room slots k t e in omega arith

  -- the lists that are read are those that the pointers are of
  pub read : (firsts : List (Option ℕ)) (slots : List (Option (Node T))) (lists : List (List (Linked T))) → IsFamily (pointers firsts slots) lists → lists_of (pointers firsts slots) ≡ lists
  read firsts slots lists family = read_family (pointers firsts slots) lists family (λ k t e. within_room slots k t e)

  pub closed : (firsts : List (Option ℕ)) (slots : List (Option (Node T))) (lists : List (List (Linked T))) → IsFamily (pointers firsts slots) lists → IsFamily (pointers firsts slots) (lists_of (pointers firsts slots))
  closed firsts slots lists family = subst (IsFamily (pointers firsts slots)) (sym (read firsts slots lists family)) family

  pub same_closed : (f f' : List (Option ℕ)) (s s' : List (Option (Node T))) → f' ≡ f → s' ≡ s → IsFamily (pointers f s) (lists_of (pointers f s)) → IsFamily (pointers f' s') (lists_of (pointers f' s'))
  same_closed f f' s s' e d family = subst (λ x. IsFamily (pointers x s') (lists_of (pointers x s'))) (sym e) (subst (λ x. IsFamily (pointers f x) (lists_of (pointers f x))) (sym d) family)

  pub same_read : (f f' : List (Option ℕ)) (s s' : List (Option (Node T))) → f' ≡ f → s' ≡ s → lists_of (pointers f' s') ≡ lists_of (pointers f s)
  same_read f f' s s' e d = ap₂ (λ x y. lists_of (pointers x y)) e d

  -- a node with an item has a slot
  pub some_item : (o : Option (Node T)) (t : T) → item_in o ≡ Some t → IsSome o
  some_item None t e = absurd cc
  some_item (Some n) t e = refl

  -- the node behind a gap of a list, and the gap itself, are there
  pub gap_held : (g : Pointers T) (lists : List (List (Linked T))) → IsFamily g lists → (l i : ℕ) (xs : List (Linked T)) (b : Gap) → slice_get lists l ≡ Some xs → gap_at l xs i ≡ Some b → IsHeld g b
  gap_held g lists family l zero xs b e f = subst (IsHeld g) (same_Some _ _ f) (subst (λ n. l < n) family.count (slice_get_within lists l xs e))
  gap_held g lists family l (suc i) xs b e f = at (slice_get xs i) refl f
    where
      at : (o : Option (Linked T)) → slice_get xs i ≡ o → behind o ≡ Some b → IsHeld g b
      at None k f = absurd cc
      at (Some x) k f = subst (IsHeld g) (same_Some _ _ f) (subst (λ o. IsSome o) (sym (family.item l i xs x e k)) refl)
