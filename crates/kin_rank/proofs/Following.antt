-- What an exchange, an insertion and a removal spoil of a tree.
use Rattle.std.proofs.Common.{◌≡◌, ◌≢◌, refl, sym, ap, ◌∙◌, subst, arith, List, ℕ, zero, suc, ◌+◌, ◌-◌, ◌*◌, ◌/◌, ◌<◌, ◌≤◌, ◌^◌, true, cond, nat_lt, length, length-set, set, Option, Some, None, inl, inr}
use Rattle.std.specs.Prelude.{slice_get, insert, remove, swap, ◌⊎◌}
use Rattle.std.proofs.lemmas.Bool.{cases_eq, cases_lt}
use Rattle.std.proofs.lemmas.Bool.Decides.{nat_tests}
use Rattle.std.proofs.lemmas.Nat.{pow_pos}
use Rattle.std.proofs.lemmas.Option.{same_Some, slice_get_within}
use Rattle.kin_algebra.proofs.Tests.{same_test}
use Rattle.kin_algebra.proofs.Places.{get-insert_below, get-insert_above, get-remove_below, get-remove_above, get-set_same, get-set_other}
use Rattle.kin_rank.specs.declared.leaders.Leaders.{Leaders}
use Rattle.kin_rank.specs.Leading.{place_in, joined, IsKnown}
use Rattle.kin_rank.specs.Orders.{IsPlaced}
use Rattle.kin_rank.specs.Trees.{up, at_node, joined_at, IsAbove, IsAt, IsJoinedBut, IsMeeting, IsTree, IsUnder, NoNode}
use Rattle.kin_rank.proofs.Climbing.{up_half, up_rises, up_together}
use Rattle.kin_rank.proofs.Leading.{height_of, under}
use Rattle.kin_rank.proofs.Members.{exchanged}
use Rattle.kin_rank.proofs.Placing.{read}

-- two numbers are in the same order by both places
pub record Agree (old new : List ℕ) (x y : ℕ) : Type 0 where
  pub test : nat_lt (place_in old x) (place_in old y) ≡ nat_lt (place_in new x) (place_in new y)

same_order : (i j k l : ℕ) → (i < j → k < l) → (k < l → i < j) → nat_lt i j ≡ nat_lt k l
same_order i j k l f h = same_test (nat_lt i j) (nat_lt k l) (λ e. test k l (f (meant i j e))) (λ e. test i j (h (meant k l e)))
  where
    test : (a b : ℕ) → a < b → nat_lt a b ≡ true
    test a b e = grind (arith, nat_tests, e)

    meant : (a b : ℕ) → nat_lt a b ≡ true → a < b
    meant a b e = grind (arith, nat_tests, e)

module _ (xs ys old new : List ℕ) (was : IsPlaced xs old) (is : IsPlaced ys new) where
  agree : (x y i j k l : ℕ) → slice_get xs i ≡ Some x → slice_get xs j ≡ Some y → slice_get ys k ≡ Some x → slice_get ys l ≡ Some y → (i < j → k < l) → (k < l → i < j) → Agree old new x y
  agree x y i j k l a b c d f h = record {
    test =
        (λ n. nat_lt (read xs old was i x a n) (read xs old was j y b n)) ∙ same_order i j k l f h ∙ sym (λ n. nat_lt (read ys new is k x c n) (read ys new is l y d n));
  }

  -- an insertion
  module _ (p who : ℕ) (low : p ≤ length xs) (made : ys ≡ insert xs p who) where
    shifted : (q x : ℕ) → slice_get xs q ≡ Some x → (r : ℕ) × (slice_get ys r ≡ Some x) × (((q < p) × (r ≡ q)) ⊎ ((p ≤ q) × (r ≡ suc q)))
    shifted q x a = elim (cases_lt q p) [
      | inl l ↦ (q, ap (λ (zs : List ℕ). slice_get zs q) made ∙ get-insert_below p q who xs l low ∙ a, inl (l, refl))
      | inr l ↦ (suc q, ap (λ (zs : List ℕ). slice_get zs (suc q)) made ∙ get-insert_above p q who xs l low ∙ a, inr (l, refl))
    ]

    pub agree_inserted : (x y i j : ℕ) → slice_get xs i ≡ Some x → slice_get xs j ≡ Some y → Agree old new x y
    agree_inserted x y i j a b = let k = shifted i x a in let l = shifted j y b in agree x y i j k.0 l.0 a b k.1 l.1 (forth i j k.0 l.0 k.2 l.2) (back i j k.0 l.0 k.2 l.2)
      where
        forth : (i j k l : ℕ) → ((i < p) × (k ≡ i)) ⊎ ((p ≤ i) × (k ≡ suc i)) → ((j < p) × (l ≡ j)) ⊎ ((p ≤ j) × (l ≡ suc j)) → i < j → k < l
        forth i j k l (inl a) (inl b) e = omega (arith, a.0, a.1, b.0, b.1, e)
        forth i j k l (inl a) (inr b) e = omega (arith, a.0, a.1, b.0, b.1, e)
        forth i j k l (inr a) (inl b) e = omega (arith, a.0, a.1, b.0, b.1, e)
        forth i j k l (inr a) (inr b) e = omega (arith, a.0, a.1, b.0, b.1, e)

        back : (i j k l : ℕ) → ((i < p) × (k ≡ i)) ⊎ ((p ≤ i) × (k ≡ suc i)) → ((j < p) × (l ≡ j)) ⊎ ((p ≤ j) × (l ≡ suc j)) → k < l → i < j
        back i j k l (inl a) (inl b) e = omega (arith, a.0, a.1, b.0, b.1, e)
        back i j k l (inl a) (inr b) e = omega (arith, a.0, a.1, b.0, b.1, e)
        back i j k l (inr a) (inl b) e = omega (arith, a.0, a.1, b.0, b.1, e)
        back i j k l (inr a) (inr b) e = omega (arith, a.0, a.1, b.0, b.1, e)

  -- a removal
  module _ (p who : ℕ) (at_p : slice_get xs p ≡ Some who) (made : ys ≡ remove xs p) where
    drawn : (q x : ℕ) → x ≢ who → slice_get xs q ≡ Some x → (r : ℕ) × (slice_get ys r ≡ Some x) × (((q < p) × (r ≡ q)) ⊎ ((p < q) × (q ≡ suc r)))
    drawn zero x n a = elim (cases_lt zero p) [
      | inl l ↦ (zero, ap (λ (zs : List ℕ). slice_get zs zero) made ∙ get-remove_below p zero xs l ∙ a, inl (l, refl))
      | inr l ↦ absurd (n (same_Some x who (sym a ∙ ap (slice_get xs) (let z : zero ≡ p = omega (arith, l) in z) ∙ at_p)))
    ]
    drawn (suc q) x n a = elim (cases_lt (suc q) p) [
      | inl l ↦ (suc q, ap (λ (zs : List ℕ). slice_get zs (suc q)) made ∙ get-remove_below p (suc q) xs l ∙ a, inl (l, refl))
      | inr l ↦ elim (cases_eq (suc q) p) [
        | inl e ↦ absurd (n (same_Some x who (sym a ∙ ap (slice_get xs) e ∙ at_p)))
        | inr m ↦ (q, ap (λ (zs : List ℕ). slice_get zs q) made ∙ get-remove_above p q xs (omega (arith, l, m)) ∙ a, inr (omega (arith, l, m), refl))
      ]
    ]

    pub agree_removed : (x y i j : ℕ) → x ≢ who → y ≢ who → slice_get xs i ≡ Some x → slice_get xs j ≡ Some y → Agree old new x y
    agree_removed x y i j m n a b = let k = drawn i x m a in let l = drawn j y n b in agree x y i j k.0 l.0 a b k.1 l.1 (forth i j k.0 l.0 k.2 l.2) (back i j k.0 l.0 k.2 l.2)
      where
        forth : (i j k l : ℕ) → ((i < p) × (k ≡ i)) ⊎ ((p < i) × (i ≡ suc k)) → ((j < p) × (l ≡ j)) ⊎ ((p < j) × (j ≡ suc l)) → i < j → k < l
        forth i j k l (inl a) (inl b) e = omega (arith, a.0, a.1, b.0, b.1, e)
        forth i j k l (inl a) (inr b) e = omega (arith, a.0, a.1, b.0, b.1, e)
        forth i j k l (inr a) (inl b) e = omega (arith, a.0, a.1, b.0, b.1, e)
        forth i j k l (inr a) (inr b) e = omega (arith, a.0, a.1, b.0, b.1, e)

        back : (i j k l : ℕ) → ((i < p) × (k ≡ i)) ⊎ ((p < i) × (i ≡ suc k)) → ((j < p) × (l ≡ j)) ⊎ ((p < j) × (j ≡ suc l)) → k < l → i < j
        back i j k l (inl a) (inl b) e = omega (arith, a.0, a.1, b.0, b.1, e)
        back i j k l (inl a) (inr b) e = omega (arith, a.0, a.1, b.0, b.1, e)
        back i j k l (inr a) (inl b) e = omega (arith, a.0, a.1, b.0, b.1, e)
        back i j k l (inr a) (inr b) e = omega (arith, a.0, a.1, b.0, b.1, e)

  -- an exchange
  module _ (p a b : ℕ) (at_a : slice_get xs p ≡ Some a) (at_b : slice_get xs (p + 1) ≡ Some b) (made : ys ≡ swap xs p (p + 1)) where
    turned : (q x : ℕ) → slice_get xs q ≡ Some x → (r : ℕ) × (slice_get ys r ≡ Some x) × (((q ≡ p) × (r ≡ p + 1)) ⊎ (((q ≡ p + 1) × (r ≡ p)) ⊎ ((q ≢ p) × (q ≢ p + 1) × (r ≡ q))))
    turned q x e = elim (cases_eq q p) [
      | inl s ↦ (
        p + 1,
        in_new (p + 1) x (get-set_same _ (p + 1) a (let w = slice_get_within xs (p + 1) b at_b in let l = length-set xs p b in omega (arith, w, l)) ∙ sym at_a ∙ ap (slice_get xs)
            (sym s) ∙ e),
        inl (s, refl),
      )
      | inr n ↦ elim (cases_eq q (p + 1)) [
        | inl s ↦ (
          p,
          in_new p x (get-set_other _ (p + 1) p a (λ i. absurd (omega (arith, i))) ∙ get-set_same xs p b (slice_get_within xs p a at_a) ∙ sym at_b ∙ ap (slice_get xs) (sym s) ∙ e),
          inr
              (inl (s, refl)),
        )
        | inr m ↦ (q, in_new q x (get-set_other _ (p + 1) q a m ∙ get-set_other xs p q b n ∙ e), inr (inr (n, m, refl)))
      ]
    ]
      where
        in_new : (r x : ℕ) → slice_get (set (set xs p b) (p + 1) a) r ≡ Some x → slice_get ys r ≡ Some x
        in_new r x h = ap (λ (zs : List ℕ). slice_get zs r) (made ∙ exchanged xs p a b at_a at_b) ∙ h

    -- any two numbers that aren't both of these stay in order
    pub agree_exchanged : (x y i j : ℕ) → slice_get xs i ≡ Some x → slice_get xs j ≡ Some y → (((i ≡ p) × (j ≡ p + 1)) ⊎ ((i ≡ p + 1) × (j ≡ p))) ⊎ Agree old new x y
    agree_exchanged x y i j e f = at (turned i x e) (turned j y f)
      where
        at : (r : ℕ) × (slice_get ys r ≡ Some x) × (((i ≡ p) × (r ≡ p + 1)) ⊎ (((i ≡ p + 1) × (r ≡ p)) ⊎ ((i ≢ p) × (i ≢ p + 1) × (r ≡ i))))
            → (r : ℕ) × (slice_get ys r ≡ Some y) × (((j ≡ p) × (r ≡ p + 1)) ⊎ (((j ≡ p + 1) × (r ≡ p)) ⊎ ((j ≢ p) × (j ≢ p + 1) × (r ≡ j))))
            → (((i ≡ p) × (j ≡ p + 1)) ⊎ ((i ≡ p + 1) × (j ≡ p))) ⊎ Agree old new x y
        at (k, g, inl u) (l, h, inl v) = inr (agree x y i j k l e f g h (λ s. absurd (omega (arith, s, u.0, v.0))) (λ s. absurd (omega (arith, s, u.1, v.1))))
        at (k, g, inl u) (l, h, inr (inl v)) = inl (inl (u.0, v.0))
        at (k, g, inl u) (l, h, inr (inr v)) = inr (agree x y i j k l e f g h (λ s. omega (arith, s, u.0, u.1, v.0, v.1, v.2)) (λ s. omega (arith, s, u.0, u.1, v.0, v.1, v.2)))
        at (k, g, inr (inl u)) (l, h, inl v) = inl (inr (u.0, v.0))
        at (k, g, inr (inl u)) (l, h, inr (inl v)) = inr (agree x y i j k l e f g h (λ s. absurd (omega (arith, s, u.0, v.0))) (λ s. absurd (omega (arith, s, u.1, v.1))))
        at (k, g, inr (inl u)) (l, h, inr (inr v)) = inr (agree x y i j k l e f g h (λ s. omega (arith, s, u.0, u.1, v.0, v.1, v.2)) (λ s. omega (arith, s, u.0, u.1, v.0, v.1, v.2)))
        at (k, g, inr (inr u)) (l, h, inl v) = inr (agree x y i j k l e f g h (λ s. omega (arith, s, v.0, v.1, u.0, u.1, u.2)) (λ s. omega (arith, s, v.0, v.1, u.0, u.1, u.2)))
        at (k, g, inr (inr u)) (l, h, inr (inl v)) = inr (agree x y i j k l e f g h (λ s. omega (arith, s, v.0, v.1, u.0, u.1, u.2)) (λ s. omega (arith, s, v.0, v.1, u.0, u.1, u.2)))
        at (k, g, inr (inr u)) (l, h, inr (inr v)) = inr (agree x y i j k l e f g h (λ s. omega (arith, s, v.2, u.2)) (λ s. omega (arith, s, v.2, u.2)))

-- ---- the joins by new places
same_joined : (g t g' t' : List ℕ) (a b : Option Leaders)
    → ((l r : Leaders) → a ≡ Some l → b ≡ Some r → Agree g g' l.last_in_g r.last_in_g × Agree t t' r.first_in_t l.first_in_t) → joined g t a b ≡ joined g' t' a b
same_joined g t g' t' None b f = refl
same_joined g t g' t' (Some l) None f = refl
same_joined g t g' t' (Some l) (Some r) f =
    let p = f l r refl refl in
    λ k. Some (record { last_in_g = cond (p.0.test k) r.last_in_g l.last_in_g; first_in_t = cond (p.1.test k) r.first_in_t l.first_in_t })

-- the joins hold by new places too, but for nodes where these places order the leaders of the halves in another way
pub retold : (f g t : List ℕ) (nodes : List (Option Leaders)) → IsTree f g t nodes → (s : ℕ) → length g ≡ 2 ^ s → (g' t' : List ℕ) → length g' ≡ length g → (bad : ℕ → Type 0)
    → ((h v : ℕ) (l r : Leaders) → IsAt (length g) h (2 * v) → IsAt (length g) h (2 * v + 1) → at_node nodes (2 * v) ≡ Some l → at_node nodes (2 * v + 1) ≡ Some r
    → bad v ⊎ (Agree g g' l.last_in_g r.last_in_g × Agree t t' r.first_in_t l.first_in_t))
    → IsJoinedBut g' t' nodes bad
retold f g t nodes tree s wide g' t' same bad told = record {
  count = tree.joins.count ∙ ap (λ (n : ℕ). 2 * n) (sym same);
  known = λ v. subst (λ (n : ℕ). IsKnown n (at_node nodes v)) (sym same) (tree.joins.known v);
  joins = λ v some inner. joins v some (subst (λ (n : ℕ). v < n) same inner);
}
  where
    joins : (v : ℕ) → 0 < v → v < length g → (at_node nodes v ≡ joined_at g' t' nodes v) ⊎ bad v
    joins v some inner = elim (decide (at_node nodes (2 * v)) (at_node nodes (2 * v + 1)) refl refl) [
      | inl e ↦ inl (now ∙ e)
      | inr b ↦ inr b
    ]
      where
        now : at_node nodes v ≡ joined_at g t nodes v
        now = elim (tree.joins.joins v some inner) [
          | inl e ↦ e
          | inr n ↦ absurd n
        ]

        height : (h : ℕ) × IsAt (length g) (suc h) v
        height = let r = height_of s v some (subst (λ (n : ℕ). v < n) wide inner) in (r.0, subst (λ (n : ℕ). IsAt n (suc r.0) v) (sym wide) r.1)

        decide : (a b : Option Leaders) → at_node nodes (2 * v) ≡ a → at_node nodes (2 * v + 1) ≡ b → (joined g t a b ≡ joined g' t' a b) ⊎ bad v
        decide None b e k = inl refl
        decide (Some l) None e k = inl refl
        decide (Some l) (Some r) e k = elim (told height.0 v l r height.1.0 height.1.1 e k) [
          | inl b ↦ inr b
          | inr p ↦ inl (same_joined g t g' t' (Some l) (Some r) (λ m n i j. (
            subst (λ (x : Leaders). Agree g g' x.last_in_g n.last_in_g) (same_Some l m i) (subst (λ (x : Leaders). Agree g g' l.last_in_g x.last_in_g) (same_Some r n j) p.0),
            subst (λ (x : Leaders). Agree t t' n.first_in_t x.first_in_t) (same_Some l m i) (subst (λ (x : Leaders). Agree t t' x.first_in_t l.first_in_t) (same_Some r n j) p.1),
          )))
        ]

-- ---- the lowest node above two places
met : (a b m h v : ℕ) → IsMeeting a b m → up h a ≡ 2 * v → up h b ≡ 2 * v + 1 → v ≡ m
met a b m h v c e f = at (cases_lt h c.levels)
  where
    one_up : (w : ℕ) → up (suc h) a ≡ v
    one_up w = ap (λ (n : ℕ). n / 2) e ∙ omega arith

    at : (h < c.levels) ⊎ (c.levels ≤ h) → v ≡ m
    at (inr l) = absurd (let s : up h a ≡ up h b = up_together c.levels h a b (sym c.from_a ∙ c.from_b) l in omega (arith, s, e, f))
    at (inl l) = elim (cases_eq (suc h) c.levels) [
      | inl s ↦ sym (one_up 0) ∙ ap (λ (n : ℕ). up n a) s ∙ sym c.from_a
      | inr n ↦ absurd (c.apart (suc h) (omega (arith, l, n)) (one_up 0 ∙ sym (ap (λ (n : ℕ). n / 2) f ∙ omega arith)))
    ]

met_turned : (a b m h v : ℕ) → IsMeeting a b m → up h b ≡ 2 * v → up h a ≡ 2 * v + 1 → v ≡ m
met_turned a b m h v c e f = met b a m h v (record { levels = c.levels; from_a = c.from_b; from_b = c.from_a; apart = λ k l s. c.apart k l (sym s) }) e f

-- ---- what each call spoils
module _ (f fp g t : List ℕ) (nodes : List (Option Leaders)) (tree : IsTree f g t nodes) (s : ℕ) (wide : length g ≡ 2 ^ s) (placed : IsPlaced f fp) where
  room : 0 < length g
  room = subst (λ (n : ℕ). 0 < n) (sym wide) (pow_pos s)

  above_place : (h v x : ℕ) → IsUnder f (length g) h v x → up h (length g + place_in fp x) ≡ v
  above_place h v x u = ap (λ (p : ℕ). up h (length g + p)) (read f fp placed u.place x u.at) ∙ u.above

  -- the lowest node above a and b is the only one that has one of them under each half
  lowest : (a b m h v x y : ℕ) → IsMeeting (length g + place_in fp a) (length g + place_in fp b) m → IsUnder f (length g) h (2 * v) x → IsUnder f (length g) h (2 * v + 1) y
      → ((x ≡ a) × (y ≡ b)) ⊎ ((x ≡ b) × (y ≡ a)) → v ≡ m
  lowest a b m h v x y c u w (inl e) =
      met (length g + place_in fp a) (length g + place_in fp b) m h v c (ap (λ (z : ℕ). up h (length g + place_in fp z)) (sym e.0) ∙ above_place h (2 * v) x u)
      (ap (λ (z : ℕ). up h (length g + place_in fp z)) (sym e.1) ∙ above_place h (2 * v + 1) y w)
  lowest a b m h v x y c u w (inr e) =
      met_turned (length g + place_in fp a) (length g + place_in fp b) m h v c (ap (λ (z : ℕ). up h (length g + place_in fp z)) (sym e.0) ∙ above_place h (2 * v) x u)
      (ap (λ (z : ℕ). up h (length g + place_in fp z)) (sym e.1) ∙ above_place h (2 * v + 1) y w)

  unmoved : (ps : List ℕ) (x y : ℕ) → Agree ps ps x y
  unmoved ps x y = record { test = refl }

  -- an exchange in a list of the same numbers: they agree, or are both of the numbers exchanged
  module _ (xs ys old new : List ℕ) (was : IsPlaced xs old) (is : IsPlaced ys new) (members : (p x : ℕ) → slice_get f p ≡ Some x → (q : ℕ) × (slice_get xs q ≡ Some x))
      (p a b : ℕ) (at_a : slice_get xs p ≡ Some a) (at_b : slice_get xs (p + 1) ≡ Some b) (made : ys ≡ swap xs p (p + 1)) where
    exchange_parts : (x y i j : ℕ) → slice_get f i ≡ Some x → slice_get f j ≡ Some y → (((x ≡ a) × (y ≡ b)) ⊎ ((x ≡ b) × (y ≡ a))) ⊎ Agree old new x y
    exchange_parts x y i j e k =
        let q = members i x e in
        let r = members j y k in
        elim (agree_exchanged xs ys old new was is p a b at_a at_b made x y q.0 r.0 q.1 r.1) [
          | inr o ↦ inr o
          | inl o ↦ elim o [
            | inl c ↦ inl (inl (same_Some x a (sym q.1 ∙ ap (slice_get xs) c.0 ∙ at_a), same_Some y b (sym r.1 ∙ ap (slice_get xs) c.1 ∙ at_b)))
            | inr c ↦ inl (inr (same_Some x b (sym q.1 ∙ ap (slice_get xs) c.0 ∙ at_b), same_Some y a (sym r.1 ∙ ap (slice_get xs) c.1 ∙ at_a)))
          ]
        ]

  pub exchange_in_g : (xs ys new : List ℕ) → IsPlaced xs g → IsPlaced ys new → length new ≡ length g → ((p x : ℕ) → slice_get f p ≡ Some x → (q : ℕ) × (slice_get xs q ≡ Some x))
      → (p a b m : ℕ) → slice_get xs p ≡ Some a → slice_get xs (p + 1) ≡ Some b → ys ≡ swap xs p (p + 1) → IsMeeting (length g + place_in fp a) (length g + place_in fp b) m → IsJoinedBut new t
      nodes (λ v. v ≡ m)
  exchange_in_g xs ys new was is same members p a b m at_a at_b made meeting = retold f g t nodes tree s wide new t same (λ v. v ≡ m) (λ h v l r i j e k.
      let u = (under f g t nodes tree room h (2 * v) l i e).0 in
      let w = (under f g t nodes tree room h (2 * v + 1) r j k).0 in
      elim (exchange_parts xs ys g new was is members p a b at_a at_b made l.last_in_g r.last_in_g u.place w.place u.at w.at) [
        | inl c ↦ inl (lowest a b m h v l.last_in_g r.last_in_g meeting u w c)
        | inr o ↦ inr (o, unmoved t r.first_in_t l.first_in_t)
      ])

  pub exchange_in_t : (xs ys new : List ℕ) → IsPlaced xs t → IsPlaced ys new → ((p x : ℕ) → slice_get f p ≡ Some x → (q : ℕ) × (slice_get xs q ≡ Some x))
      → (p a b m : ℕ) → slice_get xs p ≡ Some a → slice_get xs (p + 1) ≡ Some b → ys ≡ swap xs p (p + 1) → IsMeeting (length g + place_in fp a) (length g + place_in fp b) m → IsJoinedBut g new
      nodes (λ v. v ≡ m)
  exchange_in_t xs ys new was is members p a b m at_a at_b made meeting = retold f g t nodes tree s wide g new refl (λ v. v ≡ m) (λ h v l r i j e k.
      let u = (under f g t nodes tree room h (2 * v) l i e).1 in
      let w = (under f g t nodes tree room h (2 * v + 1) r j k).1 in
      elim (exchange_parts xs ys t new was is members p a b at_a at_b made r.first_in_t l.first_in_t w.place u.place w.at u.at) [
        | inl c ↦ inl (lowest a b m h v l.first_in_t r.first_in_t meeting u w (elim c [
          | inl d ↦ inr (d.1, d.0)
          | inr d ↦ inl (d.1, d.0)
        ]))
        | inr o ↦ inr (unmoved g l.last_in_g r.last_in_g, o)
      ])

  pub insertion : (xs ys xs' ys' g' t' : List ℕ) → IsPlaced xs g → IsPlaced ys t → IsPlaced xs' g' → IsPlaced ys' t' → length g' ≡ length g
      → ((p x : ℕ) → slice_get f p ≡ Some x → (q : ℕ) × (slice_get xs q ≡ Some x)) → ((p x : ℕ) → slice_get f p ≡ Some x → (q : ℕ) × (slice_get ys q ≡ Some x))
      → (who p q : ℕ) → p ≤ length xs → q ≤ length ys → xs' ≡ insert xs p who → ys' ≡ insert ys q who → IsJoinedBut g' t' nodes NoNode
  insertion xs ys xs' ys' g' t' gs ts gs' ts' same in_g in_t who p q low_p low_q made_g made_t = retold f g t nodes tree s wide g' t' same NoNode (λ h v l r i j e k.
      let u = under f g t nodes tree room h (2 * v) l i e in
      let w = under f g t nodes tree room h (2 * v + 1) r j k in
      let a = in_g u.0.place l.last_in_g u.0.at in
      let b = in_g w.0.place r.last_in_g w.0.at in
      let c = in_t w.1.place r.first_in_t w.1.at in
      let d = in_t u.1.place l.first_in_t u.1.at in
      inr (
        agree_inserted xs xs' g g' gs gs' p who low_p made_g l.last_in_g r.last_in_g a.0 b.0 a.1 b.1,
        agree_inserted ys ys' t t' ts ts' q who low_q made_t r.first_in_t l.first_in_t c.0 d.0 c.1
            d.1,
      ))

  -- a removal spoils what is above the leaf
  above_leaf : (who end h v w : ℕ) → place_in fp who < end → IsUnder f (length g) h w who → w / 2 ≡ v → IsAbove ((length g + place_in fp who) / 2) ((length g + end - 1) / 2) v
  above_leaf who end h v w low u e =
      let here : up h ((length g + place_in fp who) / 2) ≡ v = up_half h (length g + place_in fp who) ∙ ap (λ (n : ℕ). n / 2) (above_place h w who u) ∙ e in
      let more = up_rises h ((length g + place_in fp who) / 2) ((length g + end - 1) / 2) (omega (arith, low)) in
      record { levels = h; low = omega (arith, here); high = omega (arith, here, more) }

  pub removal : (xs ys xs' ys' g' t' : List ℕ) → IsPlaced xs g → IsPlaced ys t → IsPlaced xs' g' → IsPlaced ys' t' → length g' ≡ length g
      → ((p x : ℕ) → slice_get f p ≡ Some x → (q : ℕ) × (slice_get xs q ≡ Some x)) → ((p x : ℕ) → slice_get f p ≡ Some x → (q : ℕ) × (slice_get ys q ≡ Some x))
      → (who p q end : ℕ) → place_in fp who < end → slice_get xs p ≡ Some who → slice_get ys q ≡ Some who → xs' ≡ remove xs p → ys' ≡ remove ys q
      → IsJoinedBut g' t' nodes (IsAbove ((length g + place_in fp who) / 2) ((length g + end - 1) / 2))
  removal xs ys xs' ys' g' t' gs ts gs' ts' same in_g in_t who p q end low at_p at_q made_g made_t = retold f g t nodes tree s wide g' t' same _ (λ h v l r i j e k.
      let u = under f g t nodes tree room h (2 * v) l i e in
      let w = under f g t nodes tree room h (2 * v + 1) r j k in
      let a = in_g u.0.place l.last_in_g u.0.at in
      let b = in_g w.0.place r.last_in_g w.0.at in
      let c = in_t w.1.place r.first_in_t w.1.at in
      let d = in_t u.1.place l.first_in_t u.1.at in
      let gone : (x z : ℕ) → x ≡ who → z / 2 ≡ v → IsUnder f (length g) h z x → IsAbove ((length g + place_in fp who) / 2) ((length g + end - 1) / 2) v =
      λ x z o n y. above_leaf who end h v z low (subst (IsUnder f (length g) h z) o y) n in
      elim (cases_eq l.last_in_g who) [
        | inl o ↦ inl (gone l.last_in_g (2 * v) o (omega arith) u.0)
        | inr n1 ↦ elim (cases_eq r.last_in_g who) [
          | inl o ↦ inl (gone r.last_in_g (2 * v + 1) o (omega arith) w.0)
          | inr n2 ↦ elim (cases_eq r.first_in_t who) [
            | inl o ↦ inl (gone r.first_in_t (2 * v + 1) o (omega arith) w.1)
            | inr n3 ↦ elim (cases_eq l.first_in_t who) [
              | inl o ↦ inl (gone l.first_in_t (2 * v) o (omega arith) u.1)
              | inr n4 ↦ inr (
                agree_removed xs xs' g g' gs gs' p who at_p made_g l.last_in_g r.last_in_g a.0 b.0 n1 n2 a.1 b.1,
                agree_removed ys ys' t t' ts ts' q who at_q made_t r.first_in_t
                    l.first_in_t c.0 d.0 n3 n4 c.1 d.1,
              )
            ]
          ]
        ]
      ])
