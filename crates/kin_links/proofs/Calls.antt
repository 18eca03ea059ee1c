-- What each call of the lists comes to.
use Rattle.std.proofs.Common.{◌≡◌, ◌≢◌, refl, sym, ap, ap₂, ◌∙◌, subst, arith, List, [], ◌∷◌, ◌++◌, ℕ, zero, suc, ◌+◌, ◌<◌, ◌≤◌, ◌⊎◌, length, set, Some, None, Option, inl, inr, IsSome, add-one}
use Rattle.std.specs.Prelude.{slice_get, slice_index_or, remove, insert, MatchOption}
use Rattle.std.proofs.lemmas.Option.{slice_get_within, same_Some}
use Rattle.std.proofs.lemmas.List.{length_push, set-set}
use Rattle.kin_algebra.proofs.Places.{get-remove_above, get-set_same, get_within, past_from_none}
use Rattle.slab.specs.Slab.{Slab, Updates}
use Rattle.kin_links.specs.declared.node.Gap.{Gap}
use Rattle.kin_links.specs.declared.node.Gap.TheVariants.{Front, Behind}
use Rattle.kin_links.specs.declared.node.Node.{Node}
use Rattle.kin_links.specs.Family.{Linked, Standing, AreApart, HasLinked, IsNodeAt, exchanged}
use Rattle.kin_links.specs.Pointers.{Pointers, pointers, item_in, gap_at, behind, node_at, id_of, IsHeld, IsFamily, IsDetached, IsAttached, lists_of}
use Rattle.kin_links.proofs.Edits.{moved_on}
use Rattle.kin_links.proofs.Moves.{detach_family, detached_away, attach_family, gap_within}
use Rattle.kin_links.proofs.Reading.{family_apart, same_node, same_place}
use Rattle.kin_links.proofs.Slots.{same_but, other_slot, read, some_item, gap_held, AreSameBut}

-- a node that is in no list may go into the gap
pub record IsAttachable {T : Type 0} (firsts : List (Option ℕ)) (slots : List (Option (Node T))) (key : ℕ) (gap : Gap) : Type 0 where
  pub apart : gap ≢ Behind key
  pub held : IsHeld (pointers firsts slots) gap
  pub next : (k : ℕ) → (pointers firsts slots).next gap ≡ Some k → (k ≢ key) × IsSome (slice_index_or slots k None)

with_none : {R : Type 0} {P P' : Type 0} (Q : R → Type 0) (r : Option R) → (P → P') → MatchOption r P Q → MatchOption r P' Q
with_none Q None f h = f h
with_none Q (Some n) f h = h

module _ {T : Type 0} where
  -- the node at a place, and what is told of it
  told : {R : Type 0} (f : R → ℕ) (xs : List (Linked T)) (i : ℕ) (o : Option ℕ) (r : Option R) → o ≡ node_at xs i → MatchOption r (o ≡ None) (λ n. o ≡ Some (f n)) → MatchOption r (length xs ≤ i) (λ n. IsNodeAt xs i (f n))
  told f xs i o None e h = at (slice_get xs i) refl (sym e ∙ h)
    where
      at : (x : Option (Linked T)) → slice_get xs i ≡ x → id_of x ≡ None → length xs ≤ i
      at None k g = past_from_none xs i k
      at (Some x) k g = absurd cc
  told f xs i o (Some n) e h = at (slice_get xs i) refl (sym e ∙ h)
    where
      at : (x : Option (Linked T)) → slice_get xs i ≡ x → id_of x ≡ Some (f n) → IsNodeAt xs i (f n)
      at None k g = absurd cc
      at (Some x) k g = (x, k, same_Some _ _ g)

  no_items : (xs : List (Linked T)) → length xs ≤ 0 → xs ≡ []
  no_items [] h = refl
  no_items (x ∷ xs) h = absurd (omega arith)

module _ {T : Type 0} (firsts : List (Option ℕ)) (slots : List (Option (Node T))) (value : List (List (Linked T))) (invariant : IsFamily (pointers firsts slots) (lists_of (pointers firsts slots))) (view_is : lists_of (pointers firsts slots) ≡ value) where
  abbrev g : Pointers T
  g = pointers firsts slots

  pub family : IsFamily (pointers firsts slots) value
  family = subst (IsFamily (pointers firsts slots)) view_is invariant

  pub node_there : (node : ℕ) → Standing value node → IsSome (slice_index_or slots node None)
  node_there node s = some_item _ s.item (family.item s.list s.place s.items _ s.listed s.at)

  pub behind_held : (node : ℕ) → Standing value node → IsHeld (pointers firsts slots) (Behind node)
  behind_held node s = gap_held (pointers firsts slots) value family s.list (suc s.place) s.items (Behind node) s.listed (ap behind s.at)

  -- the node behind a gap is there
  pub follower_there : (l i : ℕ) (xs : List (Linked T)) (b : Gap) (k : ℕ) → slice_get value l ≡ Some xs → gap_at l xs i ≡ Some b → (pointers firsts slots).next b ≡ Some k → Standing value k
  follower_there l i xs b k e f n = at (slice_get xs i) refl (sym (family.next l i xs b e f) ∙ n)
    where
      at : (o : Option (Linked T)) → slice_get xs i ≡ o → id_of o ≡ Some k → Standing value k
      at None h m = absurd cc
      at (Some x) h m = record { list = l; place = i; items = xs; item = x.item; listed = e; at = h ∙ ap (λ (j : ℕ). Some (record { node = j; item = x.item })) (same_Some _ _ m) }

  pub next_there : (node k : ℕ) → Standing value node → (pointers firsts slots).next (Behind node) ≡ Some k → IsSome (slice_index_or slots k None)
  next_there node k s n = node_there k (follower_there s.list (suc s.place) s.items (Behind node) k s.listed (ap behind s.at) n)

  pub prev_held : (node : ℕ) (gap : Gap) → Standing value node → (pointers firsts slots).prev node ≡ Some gap → IsHeld (pointers firsts slots) gap
  prev_held node gap s e = gap_held (pointers firsts slots) value family s.list s.place s.items gap s.listed (sym (family.prev s.list s.place s.items _ s.listed s.at) ∙ e)

  -- the answers of the questions
  pub first_answer : {R : Type 0} (f : R → ℕ) (r : Option R) (o : Option ℕ) (l : ℕ) (xs : List (Linked T)) → slice_get value l ≡ Some xs → o ≡ (pointers firsts slots).next (Front l) → MatchOption r (o ≡ None) (λ n. o ≡ Some (f n)) → MatchOption r (xs ≡ []) (λ n. IsNodeAt xs 0 (f n))
  first_answer f r o l xs e n h = with_none (λ n. IsNodeAt xs 0 (f n)) r (no_items xs) (told f xs 0 o r (n ∙ family.next l 0 xs (Front l) e refl) h)

  pub next_answer : {R : Type 0} (f : R → ℕ) (r : Option R) (o : Option ℕ) (node : ℕ) (s : Standing value node) → o ≡ (pointers firsts slots).next (Behind node) → MatchOption r (o ≡ None) (λ n. o ≡ Some (f n)) → MatchOption r (s.place + 1 ≡ length s.items) (λ n. IsNodeAt s.items (s.place + 1) (f n))
  next_answer f r o node s n h = with_none (λ n. IsNodeAt s.items (s.place + 1) (f n)) r (λ past. let w = slice_get_within s.items s.place _ s.at in omega (arith, past, w)) (told f s.items (s.place + 1) o r (n ∙ family.next s.list (suc s.place) s.items (Behind node) s.listed (ap behind s.at) ∙ ap (node_at s.items) (sym (add-one s.place))) h)

  pub prev_answer : {R : Type 0} (f : R → ℕ) (r : Option R) (gap : Gap) (node : ℕ) (s : Standing value node) → (pointers firsts slots).prev node ≡ Some gap → MatchOption r ((l : ℕ) × (gap ≡ Front l)) (λ n. gap ≡ Behind (f n))
      → MatchOption r (s.place ≡ 0) (λ n. (place : ℕ) × (place + 1 ≡ s.place) × IsNodeAt s.items place (f n))
  prev_answer {R} f r gap node s e h = at s.place (sym (family.prev s.list s.place s.items _ s.listed s.at) ∙ e) r h
    where
      none : (o : Option (Linked T)) (l : ℕ) → behind o ≡ Some gap → gap ≡ Front l → ⊥
      none None l k m = cc
      none (Some x) l k m = let c : Behind x.node ≡ Front l = same_Some _ _ k ∙ m in cc

      at : (p : ℕ) → gap_at s.list s.items p ≡ Some gap → (r : Option R) → MatchOption r ((l : ℕ) × (gap ≡ Front l)) (λ n. gap ≡ Behind (f n)) → MatchOption r (p ≡ 0) (λ n. (place : ℕ) × (place + 1 ≡ p) × IsNodeAt s.items place (f n))
      at zero k None h = refl
      at zero k (Some n) h = absurd (let c : Front s.list ≡ Behind (f n) = same_Some _ _ k ∙ h in cc)
      at (suc p) k None h = absurd (none (slice_get s.items p) h.0 k h.1)
      at (suc p) k (Some n) h = (p, add-one p, there (slice_get s.items p) refl k)
        where
          there : (o : Option (Linked T)) → slice_get s.items p ≡ o → behind o ≡ Some gap → IsNodeAt s.items p (f n)
          there None m k = absurd cc
          there (Some x) m k = (x, m, same_node x.node (f n) (same_Some _ _ k ∙ h))

  pub item_answer : (node : ℕ) (t : T) → (pointers firsts slots).item node ≡ Some t → (s : Standing value node) → t ≡ s.item
  item_answer node t e s = same_Some t s.item (sym e ∙ family.item s.list s.place s.items _ s.listed s.at)

  pub apart : AreApart value
  apart = family_apart (pointers firsts slots) value family

  -- a new list
  pub listed_new : IsFamily (pointers (firsts ++ None ∷ []) slots) (value ++ [] ∷ [])
  listed_new = record {
    count = length_push value [] ∙ ap (λ n. n + 1) family.count ∙ sym (length_push firsts None);
    next = next_all;
    prev = prev_all;
    item = item_all;
  }
    where
      same_first : (fs : List (Option ℕ)) (l : ℕ) → slice_index_or (fs ++ None ∷ []) l None ≡ slice_index_or fs l None
      same_first [] zero = refl
      same_first [] (suc l) = refl
      same_first (f ∷ fs) zero = refl
      same_first (f ∷ fs) (suc l) = same_first fs l

      past_first : (fs : List (Option ℕ)) (l : ℕ) → length fs ≤ l → slice_index_or fs l None ≡ None
      past_first [] l h = refl
      past_first (f ∷ fs) zero h = absurd (omega arith)
      past_first (f ∷ fs) (suc l) h = past_first fs l (omega arith)

      old_or_new : (lists : List (List (Linked T))) (l : ℕ) (xs : List (Linked T)) → slice_get (lists ++ [] ∷ []) l ≡ Some xs → (slice_get lists l ≡ Some xs) ⊎ ((length lists ≤ l) × (xs ≡ []))
      old_or_new [] zero xs e = inr (omega arith, sym (same_Some _ _ e))
      old_or_new [] (suc l) xs e = absurd cc
      old_or_new (y ∷ ys) zero xs e = inl e
      old_or_new (y ∷ ys) (suc l) xs e = at (old_or_new ys l xs e)
        where
          at : (slice_get ys l ≡ Some xs) ⊎ ((length ys ≤ l) × (xs ≡ [])) → (slice_get ys l ≡ Some xs) ⊎ ((length (y ∷ ys) ≤ suc l) × (xs ≡ []))
          at (inl h) = inl h
          at (inr h) = inr (omega (arith, h.0), h.1)

      same_next : (b : Gap) → (pointers (firsts ++ None ∷ []) slots).next b ≡ (pointers firsts slots).next b
      same_next (Front l) = same_first firsts l
      same_next (Behind k) = refl

      next_all : (l i : ℕ) (xs : List (Linked T)) (b : Gap) → slice_get (value ++ [] ∷ []) l ≡ Some xs → gap_at l xs i ≡ Some b → (pointers (firsts ++ None ∷ []) slots).next b ≡ node_at xs i
      next_all l i xs b e f = at (old_or_new value l xs e)
        where
          front : (i : ℕ) (xs : List (Linked T)) → length value ≤ l → xs ≡ [] → gap_at l xs i ≡ Some b → (pointers (firsts ++ None ∷ []) slots).next b ≡ node_at xs i
          front zero xs h s f =
              ap (pointers (firsts ++ None ∷ []) slots).next (sym (same_Some _ _ f)) ∙ same_first firsts l ∙ past_first firsts l (subst (λ n. n ≤ l) family.count h) ∙ sym (ap (λ (ys : List (Linked T)). node_at ys 0) s)
          front (suc i) xs h s f = absurd (let c : None ≡ Some b = sym (ap (λ (ys : List (Linked T)). gap_at l ys (suc i)) s) ∙ f in cc)

          at : (slice_get value l ≡ Some xs) ⊎ ((length value ≤ l) × (xs ≡ [])) → (pointers (firsts ++ None ∷ []) slots).next b ≡ node_at xs i
          at (inl h) = same_next b ∙ family.next l i xs b h f
          at (inr h) = front i xs h.0 h.1 f

      prev_all : (l i : ℕ) (xs : List (Linked T)) (x : Linked T) → slice_get (value ++ [] ∷ []) l ≡ Some xs → slice_get xs i ≡ Some x → (pointers firsts slots).prev x.node ≡ gap_at l xs i
      prev_all l i xs x e f = at (old_or_new value l xs e)
        where
          at : (slice_get value l ≡ Some xs) ⊎ ((length value ≤ l) × (xs ≡ [])) → (pointers firsts slots).prev x.node ≡ gap_at l xs i
          at (inl h) = family.prev l i xs x h f
          at (inr h) = absurd (let c : None ≡ Some x = sym (ap (λ (ys : List (Linked T)). slice_get ys i) h.1) ∙ f in cc)

      item_all : (l i : ℕ) (xs : List (Linked T)) (x : Linked T) → slice_get (value ++ [] ∷ []) l ≡ Some xs → slice_get xs i ≡ Some x → (pointers firsts slots).item x.node ≡ Some x.item
      item_all l i xs x e f = at (old_or_new value l xs e)
        where
          at : (slice_get value l ≡ Some xs) ⊎ ((length value ≤ l) × (xs ≡ [])) → (pointers firsts slots).item x.node ≡ Some x.item
          at (inl h) = family.item l i xs x h f
          at (inr h) = absurd (let c : None ≡ Some x = sym (ap (λ (ys : List (Linked T)). slice_get ys i) h.1) ∙ f in cc)

  -- a slot that was vacant is filled, and the node then stands in a gap
  module _ (mid : Slab (Node T)) (key : ℕ) (node : Node T) (vacant : slice_index_or slots key None ≡ None) (old : Slab (Node T)) (same : old.slots ≡ slots) (filled : Updates old mid key (Some node)) where
    pub vacant_away : ¬ (Standing value key)
    vacant_away s = let h : item_in {T = T} None ≡ Some s.item = sym (ap item_in vacant) ∙ family.item s.list s.place s.items _ s.listed s.at in cc

    same_pointers : AreSameBut (pointers firsts slots) (pointers firsts mid.slots) key
    same_pointers = subst (λ (ss : List (Option (Node T))). AreSameBut (pointers firsts ss) (pointers firsts mid.slots) key) same (same_but firsts old mid key (Some node) filled)

    pub filled_family : IsFamily (pointers firsts mid.slots) value
    filled_family = other_slot (pointers firsts slots) (pointers firsts mid.slots) value key family same_pointers vacant_away

    module _ (l i : ℕ) (xs : List (Linked T)) (gap : Gap) (listed : slice_get value l ≡ Some xs) (at-gap : gap_at l xs i ≡ Some gap) where
      gap_elsewhere : gap ≢ Behind key
      gap_elsewhere s = at i at-gap
        where
          at : (i : ℕ) → gap_at l xs i ≡ Some gap → ⊥
          at zero f = let c : Front l ≡ Behind key = same_Some _ _ f ∙ s in cc
          at (suc j) f = there (slice_get xs j) refl f
            where
              there : (o : Option (Linked T)) → slice_get xs j ≡ o → behind o ≡ Some gap → ⊥
              there None m k = cc
              there (Some x) m k = vacant_away (record { list = l; place = j; items = xs; item = x.item; listed = listed; at = m ∙ ap (λ (n : ℕ). Some (record { node = n; item = x.item })) (same_node x.node key (same_Some _ _ k ∙ s)) })

      mid_held : IsHeld (pointers firsts mid.slots) gap
      mid_held = gap_held (pointers firsts mid.slots) value filled_family l i xs gap listed at-gap

      mid_next : (k : ℕ) → (pointers firsts mid.slots).next gap ≡ Some k → (k ≢ key) × IsSome (slice_index_or mid.slots k None)
      mid_next k n = at (slice_get xs i) refl (sym (filled_family.next l i xs gap listed at-gap) ∙ n)
        where
          at : (o : Option (Linked T)) → slice_get xs i ≡ o → id_of o ≡ Some k → (k ≢ key) × IsSome (slice_index_or mid.slots k None)
          at None h m = absurd cc
          at (Some x) h m =
              let e : x.node ≡ k = same_Some _ _ m in (
                λ s. vacant_away (record { list = l; place = i; items = xs; item = x.item; listed = listed; at = h ∙ ap (λ (j : ℕ). Some (record { node = j; item = x.item })) (e ∙ s) }),
                subst (λ (j : ℕ). IsSome (slice_index_or mid.slots j None)) e (some_item _ x.item (filled_family.item l i xs x listed h)),
              )

      pub attachable : IsAttachable firsts mid.slots key gap
      attachable = record { apart = gap_elsewhere; held = mid_held; next = mid_next }

      pub linked_family : (firsts' : List (Option ℕ)) (slots' : List (Option (Node T))) → IsAttached (pointers firsts mid.slots) (pointers firsts' slots') key gap → IsFamily (pointers firsts' slots') (set value l (insert xs i (record { node = key; item = node.item })))
      linked_family firsts' slots' a =
          attach_family (pointers firsts mid.slots) value filled_family l xs listed (pointers firsts' slots') i (record { node = key; item = node.item }) gap at-gap vacant_away (ap item_in filled.changed) a

      pub has_linked : (firsts' : List (Option ℕ)) (slots' : List (Option (Node T))) → IsAttached (pointers firsts mid.slots) (pointers firsts' slots') key gap → HasLinked value (lists_of (pointers firsts' slots')) l i key node.item
      has_linked firsts' slots' a = record {
        items = xs;
        listed = listed;
        within = gap_within l i xs gap at-gap;
        fresh = vacant_away;
        linked = read firsts' slots' _ (linked_family firsts' slots' a);
      }

  -- a node is taken out of its list
  module _ (key : ℕ) (s : Standing value key) (firsts' : List (Option ℕ)) (slots' : List (Option (Node T))) (d : IsDetached (pointers firsts slots) (pointers firsts' slots') key) where
    abbrev this : Linked T
    this = record { node = key; item = s.item }

    pub out_family : IsFamily (pointers firsts' slots') (set value s.list (remove s.items s.place))
    out_family = detach_family (pointers firsts slots) value family s.list s.items s.listed (pointers firsts' slots') s.place this s.at d

    pub out_away : ¬ (Standing (set value s.list (remove s.items s.place)) key)
    out_away = detached_away (pointers firsts slots) value family s.list s.items s.listed (pointers firsts' slots') s.place this s.at d

    pub item_kept : (pointers firsts' slots').item key ≡ Some s.item
    item_kept = d.item key ∙ family.item s.list s.place s.items this s.listed s.at

    -- and its slot is emptied
    pub gone_family : (old new : Slab (Node T)) → old.slots ≡ slots' → Updates old new key None → IsFamily (pointers firsts' new.slots) (set value s.list (remove s.items s.place))
    gone_family old new same u =
        other_slot (pointers firsts' slots') (pointers firsts' new.slots) _ key out_family
        (subst (λ (ss : List (Option (Node T))). AreSameBut (pointers firsts' ss) (pointers firsts' new.slots) key) same (same_but firsts' old new key None u)) out_away

    -- or it stands behind the one that was next
    module _ (next : ℕ) (follows : (pointers firsts slots).next (Behind key) ≡ Some next) where
      pub the_next : (y : Linked T) × (slice_get s.items (suc s.place) ≡ Some y) × (y.node ≡ next)
      the_next = at (slice_get s.items (suc s.place)) refl (sym (family.next s.list (suc s.place) s.items (Behind key) s.listed (ap behind s.at)) ∙ follows)
        where
          at : (o : Option (Linked T)) → slice_get s.items (suc s.place) ≡ o → id_of o ≡ Some next → (y : Linked T) × (slice_get s.items (suc s.place) ≡ Some y) × (y.node ≡ next)
          at None h m = absurd cc
          at (Some y) h m = (y, h, same_Some _ _ m)

      next_apart : next ≢ key
      next_apart e = let y = the_next in let r = (same_place (pointers firsts slots) value family (suc s.place) s.place s.list s.list s.items s.items y.0 this s.listed s.listed y.1 s.at (y.2 ∙ e)).1 in omega (arith, r)

      pub behind_apart : Behind next ≢ Behind key
      behind_apart e = next_apart (same_node next key e)

      out_listed : slice_get (set value s.list (remove s.items s.place)) s.list ≡ Some (remove s.items s.place)
      out_listed = get-set_same value s.list _ (slice_get_within value s.list _ s.listed)

      out_gap : gap_at s.list (remove s.items s.place) (suc s.place) ≡ Some (Behind next)
      out_gap = let y = the_next in ap behind (get-remove_above s.place s.place s.items (omega arith) ∙ y.1) ∙ ap (λ (n : ℕ). Some (Behind n)) y.2

      pub out_next : (k : ℕ) → (pointers firsts' slots').next (Behind next) ≡ Some k → (k ≢ key) × IsSome (slice_index_or slots' k None)
      out_next k n = at (slice_get (remove s.items s.place) (suc s.place)) refl (sym (out_family.next s.list (suc s.place) (remove s.items s.place) (Behind next) out_listed out_gap) ∙ n)
        where
          at : (o : Option (Linked T)) → slice_get (remove s.items s.place) (suc s.place) ≡ o → id_of o ≡ Some k → (k ≢ key) × IsSome (slice_index_or slots' k None)
          at None h m = absurd cc
          at (Some x) h m =
              let e : x.node ≡ k = same_Some _ _ m in (
                λ t. out_away (record { list = s.list; place = suc s.place; items = remove s.items s.place; item = x.item; listed = out_listed; at = h ∙ ap (λ (j : ℕ). Some (record { node = j; item = x.item })) (e ∙ t) }),
                subst (λ (j : ℕ). IsSome (slice_index_or slots' j None)) e (some_item _ x.item (out_family.item s.list (suc s.place) (remove s.items s.place) x out_listed h)),
              )

      module _ (firsts'' : List (Option ℕ)) (slots'' : List (Option (Node T))) (a : IsAttached (pointers firsts' slots') (pointers firsts'' slots'') key (Behind next)) where
        pub swapped_family : IsFamily (pointers firsts'' slots'') (set value s.list (set (set s.items s.place the_next.0) (suc s.place) this))
        swapped_family =
            subst (IsFamily (pointers firsts'' slots''))
            (set-set value s.list _ _ ∙ ap (set value s.list) (moved_on s.place s.items this the_next.0 s.at the_next.1))
            (attach_family (pointers firsts' slots') _ out_family s.list (remove s.items s.place) out_listed (pointers firsts'' slots'') (suc s.place) this (Behind next) out_gap out_away item_kept a)

        pub swapped : (y : Linked T) → slice_get s.items (s.place + 1) ≡ Some y → lists_of (pointers firsts'' slots'') ≡ set value s.list (exchanged s.items s.place this y)
        swapped y e =
            let same : the_next.0 ≡ y = same_Some _ _ (sym the_next.1 ∙ ap (slice_get s.items) (sym (add-one s.place)) ∙ e) in
            read firsts'' slots'' _ swapped_family
            ∙ ap₂ (λ (z : Linked T) (p : ℕ). set value s.list (set (set s.items s.place z) p this)) same (sym (add-one s.place))

  -- the one behind a node with a next place is there
  pub has_next : (node : ℕ) (s : Standing value node) → s.place + 1 < length s.items → (pointers firsts slots).next (Behind node) ≢ None
  has_next node s h none =
      let r = get_within s.items (suc s.place) (omega arith) in
      let c : None ≡ Some r.0.node = sym none ∙ family.next s.list (suc s.place) s.items (Behind node) s.listed (ap behind s.at) ∙ ap id_of r.1 in
      cc
