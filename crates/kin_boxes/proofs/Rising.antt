-- Different pairs that were sorted rise.
use Rattle.std.proofs.Common.{◌≡◌, inl, inr, refl, sym, ap, ap₂, subst, arith, List, [], ◌∷◌, ℕ, suc, ◌+◌, ◌<◌, Bool, true, false, ◌&&◌, nat_lt, nat_cmp, nat_eq, get_or, length, Less, Equal}
use Rattle.std.specs.Prelude.{Contains}
use Rattle.std.specs.List.{IsDistinct, AllByRecursion}
use Rattle.std.specs.List.Sorted.{IsPermutation, IsSorted}
use Rattle.std.specs.Ordering.{ordering_then, is_lt}
use Rattle.std.proofs.lemmas.Bool.{cases_order, or_left, or_right, eqb-true, both_ways}
use Rattle.std.proofs.lemmas.Bool.Decides.{nat_tests}
use Rattle.std.proofs.lemmas.Map.Keys.{IsDistinct-IsPermutation}
use Rattle.kin_algebra.proofs.Members.{contains_head, contains_tail}
use Rattle.kin_motion.specs.Numbers.{IsChain}
use Rattle.kin_motion.specs.Sets.{AreDistinct}
use Rattle.kin_motion.proofs.SetLaws.{distinct_head, distinct_tail}
use Rattle.kin_motion.specs.Overlaps.{pair_before}
use Rattle.kin_motion.proofs.OverlapLists.{both_true}

same : ℕ × ℕ → ℕ × ℕ → Bool
same p q = nat_eq p.0 q.0 && nat_eq p.1 q.1

are_same : (p q : ℕ × ℕ) → same p q ≡ true → p ≡ q
unfolding same
are_same p q h =
    let b = both_true (nat_eq p.0 q.0) (nat_eq p.1 q.1) h in
    let e = eqb-true p.0 q.0 b.0 in
    let f = eqb-true p.1 q.1 b.1 in
    λ t. (e t, f t)

flips : (p q : ℕ × ℕ) → same p q ≡ same q p
unfolding same
flips p q = ap₂ (λ a b. a && b) (let e : nat_eq p.0 q.0 ≡ nat_eq q.0 p.0 = grind (arith, nat_tests) in e) (let e : nat_eq p.1 q.1 ≡ nat_eq q.1 p.1 = grind (arith, nat_tests) in e)

none_same : (p : ℕ × ℕ) (qs : List (ℕ × ℕ)) → ¬ (Contains qs p) → AllByRecursion (λ q. same p q ≡ false) qs
none_same p [] h = tt
none_same p (q ∷ qs) h = (at (same p q) refl, none_same p qs (λ c. h (contains_tail q p qs c)))
  where
    at : (b : Bool) → same p q ≡ b → b ≡ false
    at false e = refl
    at true e = absurd (h (subst (λ r. Contains (q ∷ qs) r) (sym (are_same p q e)) (contains_head q qs)))

distinct_from : (ps : List (ℕ × ℕ)) → AreDistinct ps → IsDistinct same ps
unfolding IsDistinct
distinct_from [] d = tt
distinct_from (p ∷ ps) d = (none_same p ps (distinct_head p ps d), distinct_from ps (distinct_tail p ps d))

step : (p q : ℕ × ℕ) → same p q ≡ false → is_lt (ordering_then (nat_cmp q.0 p.0) (nat_cmp q.1 p.1)) ≡ false → pair_before p q ≡ true
unfolding same
step p q n h = elim (cases_order p.0 q.0) [
  | inl e ↦ elim (cases_order p.1 q.1) [
    | inl f ↦ absurd (both_ways _ n (ap₂ (λ a b. a && b) (let g : nat_eq p.0 q.0 ≡ true = grind (arith, nat_tests, e) in g) (let g : nat_eq p.1 q.1 ≡ true = grind (arith, nat_tests, f) in g)))
    | inr c ↦ elim c [
      | inl l ↦ or_right (nat_lt p.0 q.0) (nat_eq p.0 q.0 && nat_lt p.1 q.1) (ap₂ (λ a b. a && b) (let g : nat_eq p.0 q.0 ≡ true = grind (arith, nat_tests, e) in g)
          (let g : nat_lt p.1 q.1 ≡ true = grind (arith, nat_tests, l) in g))
      | inr l ↦ absurd (both_ways _ h (ap₂ (λ a b. is_lt (ordering_then a b)) (let g : nat_cmp q.0 p.0 ≡ Equal = grind (arith, nat_tests, e) in g)
          (let g : nat_cmp q.1 p.1 ≡ Less = grind (arith, nat_tests, l) in g)))
    ]
  ]
  | inr c ↦ elim c [
    | inl l ↦ or_left (nat_lt p.0 q.0) (nat_eq p.0 q.0 && nat_lt p.1 q.1) (let g : nat_lt p.0 q.0 ≡ true = grind (arith, nat_tests, l) in g)
    | inr l ↦ absurd (both_ways _ h (ap (λ a. is_lt (ordering_then a (nat_cmp q.1 p.1))) (let g : nat_cmp q.0 p.0 ≡ Less = grind (arith, nat_tests, l) in g)))
  ]
]

rises : (ps : List (ℕ × ℕ)) → IsDistinct same ps → IsSorted (λ p q. ordering_then (nat_cmp p.0 q.0) (nat_cmp p.1 q.1)) ps → IsChain pair_before ps
unfolding IsDistinct
rises [] d s = tt
rises (p ∷ []) d s = tt
rises (p ∷ q ∷ ps) d s = (step p q d.0.0 (s 0 p (omega arith) (omega arith)), rises (q ∷ ps) d.1 (λ k e low l. at k e l))
  where
    at : (k : ℕ) (e : ℕ × ℕ) → k + 1 < length (q ∷ ps) → is_lt (ordering_then (nat_cmp (get_or (q ∷ ps) (k + 1) e).0 (get_or (q ∷ ps) k e).0)
        (nat_cmp (get_or (q ∷ ps) (k + 1) e).1 (get_or (q ∷ ps) k e).1)) ≡ false
    at k e l =
        let next : suc k + 1 ≡ suc (k + 1) = omega arith in
        subst (λ m. is_lt (ordering_then (nat_cmp (get_or (p ∷ q ∷ ps) m e).0 (get_or (q ∷ ps) k e).0) (nat_cmp (get_or (p ∷ q ∷ ps) m e).1 (get_or (q ∷ ps) k e).1)) ≡ false) next
        (s (suc k) e (omega arith) (omega (arith, l)))

pub sorted_rises : (ps qs : List (ℕ × ℕ)) → AreDistinct ps → IsPermutation ps qs → IsSorted (λ p q. ordering_then (nat_cmp p.0 q.0) (nat_cmp p.1 q.1)) qs → IsChain pair_before qs
sorted_rises ps qs distinct moved sorted = rises qs (IsDistinct-IsPermutation same flips ps qs moved (distinct_from ps distinct)) sorted
