-- Pointers that are those of some lists make these lists.
use Rattle.std.proofs.Common.{◌≡◌, ◌≢◌, refl, sym, ap, ap₂, ◌∙◌, subst, arith, List, [], ◌∷◌, ℕ, zero, suc, ◌+◌, ◌<◌, ◌≤◌, length, drop, Some, None, Option}
use Rattle.std.specs.Prelude.{slice_get}
use Rattle.std.proofs.lemmas.Option.{slice_get_within, same_Some}
use Rattle.std.proofs.lemmas.List.{drop_all}
use Rattle.kin_algebra.proofs.Places.{past_from_none}
use Rattle.kin_links.specs.declared.node.Gap.{Gap}
use Rattle.kin_links.specs.declared.node.Gap.TheVariants.{Front, Behind}
use Rattle.kin_links.specs.Family.{Linked, AreApart}
use Rattle.kin_links.specs.Pointers.{Pointers, gap_at, behind, id_of, IsFamily, walk, visited, with_item, lists_from, lists_of}
use Rattle.kin_links.proofs.Counting.{AreDifferent, few_below}

pub same_node : (n k : ℕ) → Behind n ≡ Behind k → n ≡ k
same_node n k e = cc

module _ {T : Type 0} where
  pub drop_from : (xs : List (Linked T)) (i : ℕ) (x : Linked T) → slice_get xs i ≡ Some x → drop i xs ≡ x ∷ drop (suc i) xs
  drop_from [] i x e = absurd cc
  drop_from (y ∷ ys) zero x e = ap (λ z. z ∷ ys) (same_Some y x e)
  drop_from (y ∷ ys) (suc i) x e = drop_from ys i x e

  -- the gap at a place tells the list and the place
  front_only : (l m j : ℕ) (ys : List (Linked T)) → gap_at m ys j ≡ Some (Front l) → (l ≡ m) × (j ≡ zero)
  front_only l m zero ys e = (at m l (same_Some (Front m) (Front l) e), refl)
    where
      at : (m l : ℕ) → Front m ≡ Front l → l ≡ m
      at m l e = cc
  front_only l m (suc j) ys e = absurd (at (slice_get ys j) e)
    where
      at : (o : Option (Linked T)) → behind o ≢ Some (Front l)
      at None e = cc
      at (Some x) e = let f : Behind x.node ≡ Front l = same_Some _ _ e in cc

  -- the node before a gap
  behind_only : (k m j : ℕ) (ys : List (Linked T)) → gap_at m ys j ≡ Some (Behind k) → (i : ℕ) × (x : Linked T) × (j ≡ suc i) × (slice_get ys i ≡ Some x) × (x.node ≡ k)
  behind_only k m zero ys e = absurd (let f : Front m ≡ Behind k = same_Some _ _ e in cc)
  behind_only k m (suc j) ys e = at (slice_get ys j) refl e
    where
      at : (o : Option (Linked T)) → slice_get ys j ≡ o → behind o ≡ Some (Behind k) → (i : ℕ) × (x : Linked T) × (suc j ≡ suc i) × (slice_get ys i ≡ Some x) × (x.node ≡ k)
      at None f e = absurd cc
      at (Some x) f e = (j, x, refl, f, same_node x.node k (same_Some _ _ e))

module _ {T : Type 0} (g : Pointers T) (lists : List (List (Linked T))) (family : IsFamily g lists) where
  -- one node stands at one place
  pub same_place : (i j l m : ℕ) (xs ys : List (Linked T)) (x y : Linked T) → slice_get lists l ≡ Some xs → slice_get lists m ≡ Some ys → slice_get xs i ≡ Some x → slice_get ys j ≡ Some y → x.node ≡ y.node → (l ≡ m) × (i ≡ j)
  same_place zero j l m xs ys x y a b c d e =
      let f : gap_at m ys j ≡ Some (Front l) = sym (family.prev m j ys y b d) ∙ sym (ap g.prev e) ∙ family.prev l zero xs x a c in
      let r = front_only l m j ys f in
      (r.0, sym r.1)
  same_place (suc i) j l m xs ys x y a b c d e = at (slice_get xs i) refl (λ k z w f h s. same_place i k l m xs ys z w a b f h s)
    where
      gaps : gap_at m ys j ≡ gap_at l xs (suc i)
      gaps = sym (family.prev m j ys y b d) ∙ sym (ap g.prev e) ∙ family.prev l (suc i) xs x a c

      at : (o : Option (Linked T)) → slice_get xs i ≡ o → ((k : ℕ) (z w : Linked T) → slice_get xs i ≡ Some z → slice_get ys k ≡ Some w → z.node ≡ w.node → (l ≡ m) × (i ≡ k)) → (l ≡ m) × (suc i ≡ j)
      at None f before = absurd (let h = past_from_none xs i f in let w = slice_get_within xs (suc i) x c in omega arith)
      at (Some z) f before =
          let r = behind_only z.node m j ys (gaps ∙ ap behind f) in
          let s = before r.0 z r.1 f r.3 (sym r.4) in
          (s.0, ap suc s.1 ∙ sym r.2)

  pub family_apart : AreApart lists
  family_apart node s t = same_place s.place t.place s.list t.list s.items t.items _ _ s.listed t.listed s.at t.at refl

  -- a gap is at one place
  pub same_gap : (l m i j : ℕ) (xs ys : List (Linked T)) (b : Gap) → slice_get lists l ≡ Some xs → slice_get lists m ≡ Some ys → gap_at l xs i ≡ Some b → gap_at m ys j ≡ Some b → (l ≡ m) × (i ≡ j)
  same_gap l m i j xs ys (Front k) a b c d =
      let p = front_only k l i xs c in
      let q = front_only k m j ys d in
      (sym p.0 ∙ q.0, p.1 ∙ sym q.1)
  same_gap l m i j xs ys (Behind k) a b c d =
      let p = behind_only k l i xs c in
      let q = behind_only k m j ys d in
      let s = same_place p.0 q.0 l m xs ys p.1 q.1 a b p.3 q.3 (p.4 ∙ sym q.4) in
      (s.0, p.2 ∙ ap suc s.1 ∙ sym q.2)

  -- the walk from a gap on reads the rest of the list
  walk_reads : (n i l : ℕ) (xs : List (Linked T)) (b : Gap) → slice_get lists l ≡ Some xs → length xs ≤ n + i → gap_at l xs i ≡ Some b → walk n g b ≡ drop i xs
  walk_reads zero i l xs b a h e = sym (drop_all i xs (omega arith))
  walk_reads (suc n) i l xs b a h e = at (slice_get xs i) refl (λ x f. walk_reads n (suc i) l xs (Behind x.node) a (omega arith) (ap behind f))
    where
      at : (o : Option (Linked T)) → slice_get xs i ≡ o → ((x : Linked T) → slice_get xs i ≡ Some x → walk n g (Behind x.node) ≡ drop (suc i) xs) → visited (g.next b) g.item (λ k. walk n g (Behind k)) ≡ drop i xs
      at None f further = ap (λ o. visited o g.item (λ k. walk n g (Behind k))) (family.next l i xs b a e ∙ ap id_of f) ∙ sym (drop_all i xs (past_from_none xs i f))
      at (Some x) f further =
          ap (λ o. visited o g.item (λ k. walk n g (Behind k))) (family.next l i xs b a e ∙ ap id_of f)
          ∙ ap (λ o. with_item x.node o (walk n g (Behind x.node))) (family.item l i xs x a f)
          ∙ ap (λ (rest : List (Linked T)). x ∷ rest) (further x f)
          ∙ sym (drop_from xs i x f)

  ids : List (Linked T) → List ℕ
  ids [] = []
  ids (x ∷ xs) = x.node ∷ ids xs

  module _ (sized : (k : ℕ) (t : T) → g.item k ≡ Some t → k < g.room) where
    short : (l : ℕ) (xs : List (Linked T)) → slice_get lists l ≡ Some xs → length xs ≤ g.room
    unfolding ids
    short l xs a = subst (λ n. n ≤ g.room) (length_ids xs) (few_below g.room (ids xs) different below)
      where
        length_ids : (ys : List (Linked T)) → length (ids ys) ≡ length ys
        length_ids [] = refl
        length_ids (y ∷ ys) = ap suc (length_ids ys)

        place : (ys : List (Linked T)) (p n : ℕ) → slice_get (ids ys) p ≡ Some n → (x : Linked T) × (slice_get ys p ≡ Some x) × (x.node ≡ n)
        place [] p n e = absurd cc
        place (y ∷ ys) zero n e = (y, refl, same_Some _ _ e)
        place (y ∷ ys) (suc p) n e = place ys p n e

        different : AreDifferent (ids xs)
        different p q n e f = let s = place xs p n e in let t = place xs q n f in (same_place p q l l xs xs s.0 t.0 a a s.1 t.1 (s.2 ∙ sym t.2)).1

        below : (p n : ℕ) → slice_get (ids xs) p ≡ Some n → n < g.room
        below p n e = let s = place xs p n e in subst (λ (k : ℕ). k < g.room) s.2 (sized s.0.node s.0.item (family.item l p xs s.0 a s.1))

    read_from : (l : ℕ) (rest : List (List (Linked T))) → ((i : ℕ) (xs : List (Linked T)) → slice_get rest i ≡ Some xs → slice_get lists (l + i) ≡ Some xs) → lists_from g l (length rest) ≡ rest
    read_from l [] same = refl
    read_from l (xs ∷ rest) same =
        let here : slice_get lists l ≡ Some xs = subst (λ (k : ℕ). slice_get lists k ≡ Some xs) (omega arith) (same zero xs refl) in
        let h = short l xs here in
        ap₂ (λ (ys : List (Linked T)) (yss : List (List (Linked T))). ys ∷ yss) (walk_reads g.room zero l xs (Front l) here (omega arith) refl)
        (read_from (suc l) rest (λ i ys e. subst (λ (k : ℕ). slice_get lists k ≡ Some ys) (omega arith) (same (suc i) ys e)))

    pub read_family : lists_of g ≡ lists
    read_family = ap (lists_from g 0) (sym family.count) ∙ read_from 0 lists (λ i xs e. subst (λ (k : ℕ). slice_get lists k ≡ Some xs) (omega arith) e)
