-- Each number stays at its place, whatever is done to a list.
use Rattle.std.proofs.Common.{◌≡◌, ◌≢◌, sym, ap, ◌∙◌, subst, arith, List, ℕ, suc, ◌+◌, ◌<◌, ◌≤◌, true, false, length, get_or, set, Some, length-set, inl, inr}
use Rattle.std.specs.Prelude.{slice_get, insert, remove, swap, ◌⊎◌}
use Rattle.std.proofs.lemmas.Bool.{cases_eq, cases_lt}
use Rattle.std.proofs.lemmas.Option.{slice_get_within, same_Some, get_or_from_slice_get}
use Rattle.std.proofs.lemmas.List.{get_or_default}
use Rattle.std.proofs.lemmas.List.Edits.{length-remove}
use Rattle.kin_algebra.proofs.Places.{get-insert_below, get-remove_below, get-remove_above, get-set_same, get-set_other}
use Rattle.kin_rank.specs.Ranking.{has, AreDistinct}
use Rattle.kin_rank.specs.Orders.{IsPlaced}
use Rattle.kin_rank.proofs.Members.{get_from_has, not_at, exchanged, from_removed, from_inserted, few_below}

module _ (xs places : List ℕ) (placed : IsPlaced xs places) where
  pub apart : AreDistinct xs
  apart p q x a b = same_Some p q (sym (placed.there p x a) ∙ placed.there q x b)

  pub below : (p x : ℕ) → slice_get xs p ≡ Some x → x < length places
  below p x a = slice_get_within places x p (placed.there p x a)

  -- what is read at a number of the list
  pub read : (p x : ℕ) → slice_get xs p ≡ Some x → get_or places x 0 ≡ p
  read p x a = get_or_from_slice_get places x p 0 (placed.there p x a)

  pub member_at : (x : ℕ) → has xs x ≡ true → slice_get xs (get_or places x 0) ≡ Some x
  member_at x h = let w = get_from_has xs x h in ap (slice_get xs) (read w.0 x w.1) ∙ w.1

  pub member_below : (x : ℕ) → has xs x ≡ true → x < length places
  member_below x h = let w = get_from_has xs x h in below w.0 x w.1

  -- what the code reads there
  pub found : (x p : ℕ) → has xs x ≡ true → p ≡ get_or places x p → slice_get xs p ≡ Some x
  found x p h e = ap (slice_get xs) (e ∙ get_or_default places x p 0 (member_below x h)) ∙ member_at x h

  -- an exchange
  module _ (p a b : ℕ) (at_a : slice_get xs p ≡ Some a) (at_b : slice_get xs (p + 1) ≡ Some b) where
    pub two : a ≢ b
    two e = absurd (let f = apart p (p + 1) b (at_a ∙ ap (λ (m : ℕ). Some m) e) at_b in omega arith)

    abbrev new : List ℕ
    new = set (set places b p) a (p + 1)

    at_first : slice_get new a ≡ Some (p + 1)
    at_first = let l = length-set places b p in let i = below p a at_a in get-set_same (set places b p) a (p + 1) (omega arith)

    at_second : slice_get new b ≡ Some p
    at_second = get-set_other (set places b p) a b (p + 1) (λ e. two (sym e)) ∙ get-set_same places b p (below (p + 1) b at_b)

    at_other : (x : ℕ) → x ≢ a → x ≢ b → slice_get new x ≡ slice_get places x
    at_other x m k = get-set_other (set places b p) a x (p + 1) m ∙ get-set_other places b x p k

    abbrev moved : List ℕ
    moved = set (set xs p b) (p + 1) a

    there : (q x : ℕ) → slice_get moved q ≡ Some x → slice_get new x ≡ Some q
    there q x h = elim (cases_eq q (p + 1)) [
      | inl e ↦ (let w = slice_get_within xs (p + 1) b at_b in let l = length-set xs p b in
          let s : a ≡ x = same_Some a x (sym (get-set_same (set xs p b) (p + 1) a (omega arith)) ∙ sym (ap (slice_get moved) e) ∙ h) in
          subst (λ y. slice_get new y ≡ Some q) s (at_first ∙ ap (λ (m : ℕ). Some m) (sym e)))
      | inr m ↦ elim (cases_eq q p) [
        | inl e ↦ (let w = slice_get_within xs p a at_a in
            let s : b ≡ x = same_Some b x (sym (get-set_other (set xs p b) (p + 1) p a (λ i. absurd (omega (arith, i))) ∙ get-set_same xs p b w) ∙ sym (ap (slice_get moved) e) ∙ h) in
            subst (λ y. slice_get new y ≡ Some q) s (at_second ∙ ap (λ (m : ℕ). Some m) (sym e)))
        | inr k ↦ (let o : slice_get xs q ≡ Some x = sym (get-set_other (set xs p b) (p + 1) q a m ∙ get-set_other xs p q b k) ∙ h in
            at_other x (λ e. absurd (k (apart q p a (o ∙ ap (λ (n : ℕ). Some n) e) at_a))) (λ e. absurd (m (apart q (p + 1) b (o ∙ ap (λ (n : ℕ). Some n) e) at_b))) ∙ placed.there q x o)
      ]
    ]

    pub exchange_placed : IsPlaced (swap xs p (p + 1)) (set (set places b p) a (p + 1))
    exchange_placed = subst (λ (l : List ℕ). IsPlaced l (set (set places b p) a (p + 1))) (sym (exchanged xs p a b at_a at_b)) (record {
      there = there;
      fits = let f = placed.fits in let l1 = length-set xs p b in let l2 = length-set (set xs p b) (p + 1) a in let m1 = length-set places b p in let m2 = length-set (set places b p) a (p + 1)
          in omega arith;
    })

  -- a removal
  pub apart-remove : (p : ℕ) → AreDistinct (remove xs p)
  apart-remove p q r x a b = elim (from_removed xs p q x a) [
    | inl l ↦ elim (from_removed xs p r x b) [
      | inl k ↦ apart q r x l.1 k.1
      | inr k ↦ absurd (let e = apart q (suc r) x l.1 k.1 in let i = l.0 in let j = k.0 in omega arith)
    ]
    | inr l ↦ elim (from_removed xs p r x b) [
      | inl k ↦ absurd (let e = apart (suc q) r x l.1 k.1 in let i = l.0 in let j = k.0 in omega arith)
      | inr k ↦ (let e = apart (suc q) (suc r) x l.1 k.1 in omega arith)
    ]
  ]

  pub below-remove : (p q x : ℕ) → slice_get (remove xs p) q ≡ Some x → x < length places
  below-remove p q x a = elim (from_removed xs p q x a) [
    | inl l ↦ below q x l.1
    | inr l ↦ below (suc q) x l.1
  ]

  pub remove_placed : (p : ℕ) (after : List ℕ) → p < length xs
      → length after ≡ length places
      → ((q x : ℕ) → p ≤ q → slice_get (remove xs p) q ≡ Some x → slice_get after x ≡ Some q)
      → ((x : ℕ) → ((q : ℕ) → p ≤ q → slice_get (remove xs p) q ≡ Some x → ⊥) → slice_get after x ≡ slice_get places x)
      → IsPlaced (remove xs p) after
  remove_placed p after inside same written kept = record {
    there = λ q x h. elim (cases_lt q p) [
      | inr l ↦ written q x l h
      | inl l ↦ (let o : slice_get xs q ≡ Some x = sym (get-remove_below p q xs l) ∙ h in
          kept x (λ r k g. absurd (let e = apart q (suc r) x o (sym (get-remove_above p r xs k) ∙ g) in omega arith)) ∙ placed.there q x o)
    ];
    fits = let s = placed.fits in let l = length-remove xs p inside in omega arith;
  }

  -- an insertion
  pub apart-insert : (p who : ℕ) → p ≤ length xs → has xs who ≡ false → AreDistinct (insert xs p who)
  apart-insert p who l out q r x a b = elim (from_inserted xs p q who x l a) [
    | inl f ↦ elim (from_inserted xs p r who x l b) [
      | inl g ↦ f.0 ∙ sym g.0
      | inr g ↦ absurd (no_other f.1 g)
    ]
    | inr f ↦ elim (from_inserted xs p r who x l b) [
      | inl g ↦ absurd (no_other g.1 f)
      | inr g ↦ both f g
    ]
  ]
    where
      no_other : who ≡ x → {s : ℕ} → ((s < p) × (slice_get xs s ≡ Some x)) ⊎ ((i : ℕ) × (p ≤ i) × (s ≡ suc i) × (slice_get xs i ≡ Some x)) → ⊥
      no_other e {s} (inl g) = not_at xs s who out (g.1 ∙ ap (λ (m : ℕ). Some m) (sym e))
      no_other e (inr g) = not_at xs g.0 who out (g.3 ∙ ap (λ (m : ℕ). Some m) (sym e))

      both : ((q < p) × (slice_get xs q ≡ Some x)) ⊎ ((i : ℕ) × (p ≤ i) × (q ≡ suc i) × (slice_get xs i ≡ Some x))
          → ((r < p) × (slice_get xs r ≡ Some x)) ⊎ ((i : ℕ) × (p ≤ i) × (r ≡ suc i) × (slice_get xs i ≡ Some x)) → q ≡ r
      both (inl f) (inl g) = apart q r x f.1 g.1
      both (inl f) (inr g) = absurd (let e = apart q g.0 x f.1 g.3 in omega (arith, e, f.0, g.1, g.2))
      both (inr f) (inl g) = absurd (let e = apart f.0 r x f.3 g.1 in omega (arith, e, g.0, f.1, f.2))
      both (inr f) (inr g) = let e = apart f.0 g.0 x f.3 g.3 in omega (arith, e, f.2, g.2)

  pub below-insert : (p who : ℕ) → p ≤ length xs → who < length places → (q x : ℕ) → slice_get (insert xs p who) q ≡ Some x → x < length places
  below-insert p who l w q x a = elim (from_inserted xs p q who x l a) [
    | inl f ↦ subst (λ m. m < length places) f.1 w
    | inr f ↦ elim f [
      | inl g ↦ below q x g.1
      | inr g ↦ below g.0 x g.3
    ]
  ]

  pub insert_placed : (p who : ℕ) (after : List ℕ) → p ≤ length xs → has xs who ≡ false → who < length places
      → length after ≡ length places
      → ((q x : ℕ) → p ≤ q → slice_get (insert xs p who) q ≡ Some x → slice_get after x ≡ Some q)
      → ((x : ℕ) → ((q : ℕ) → p ≤ q → slice_get (insert xs p who) q ≡ Some x → ⊥) → slice_get after x ≡ slice_get places x)
      → IsPlaced (insert xs p who) after
  insert_placed p who after l out w same written kept = record {
    there = λ q x h. elim (cases_lt q p) [
      | inr k ↦ written q x k h
      | inl k ↦ (let o : slice_get xs q ≡ Some x = sym (get-insert_below p q who xs k l) ∙ h in
          kept x (λ r m g. absurd (let e = apart-insert p who l out q r x h g in omega arith)) ∙ placed.there q x o)
    ];
    fits = let s = few_below (insert xs p who) (length places) (apart-insert p who l out) (below-insert p who l w) in omega arith;
  }

-- a list of different numbers below a bound has no more of them than the bound
pub fresh_placed : (xs places : List ℕ) → AreDistinct xs → ((p x : ℕ) → slice_get xs p ≡ Some x → x < length places) → ((p x : ℕ) → 0 ≤ p → slice_get xs p ≡ Some x → slice_get places x ≡ Some p)
    → IsPlaced xs places
fresh_placed xs places distinct within written = record { there = λ p x h. written p x (omega arith) h; fits = few_below xs (length places) distinct within }
