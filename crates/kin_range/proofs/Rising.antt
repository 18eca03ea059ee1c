-- Members that meet a test, sorted, are the box.
use Rattle.std.proofs.Common.{◌≡◌, refl, sym, ap, ◌∙◌, subst, arith, List, [], ◌∷◌, ℕ, ◌+◌, ◌<◌, Bool, true, false, cond, ◌&&◌, ◌||◌, nat_lt, nat_cmp, nat_eq, eqb, get_or, filter}
use Rattle.std.specs.Prelude.{Option, Some, None}
use Rattle.std.specs.List.{IsDistinct, AllByRecursion}
use Rattle.std.specs.List.Sorted.{IsPermutation, IsSorted, IsStrictlyIncreasing}
use Rattle.std.proofs.lemmas.Bool.Decides.{nat_tests}
use Rattle.std.proofs.lemmas.List.Sorted.{Contains-permutation, IsPermutation-sym, IsNonDecreasingBy-from_sort}
use Rattle.std.proofs.lemmas.Map.Keys.{IsDistinct-IsPermutation, IsStrictlyIncreasing-from_distinct}
use Rattle.std.proofs.lemmas.Option.{slice_get_within, get_or_from_slice_get}
use Rattle.kin_motion.specs.Course.{Course, live_of}
use Rattle.kin_motion.specs.Numbers.{is_in, IsOnce, IsChain, Lists, filled_from}
use Rattle.kin_motion.proofs.AgreementLaws.{kept-members, kept-once}
use Rattle.kin_motion.proofs.ListChains.{same_chain}
use Rattle.kin_motion.proofs.Members.{in_from_contains, contains_from_in, not_in_tail}
use Rattle.kin_list.proofs.OrderingLaws.{chain_from_neighbours}

less : (i j : ℕ) → i < j → nat_lt i j ≡ true
less i j h = grind (arith, nat_tests, h)

-- ---- the box rises
module _ {A : Type 0} (test : ℕ → Bool) where
  rises_after : (m n : ℕ) (cs : List (Option A)) → m < n → IsChain nat_lt (m ∷ filter test (filled_from n cs))
  rises_after m n [] h = tt
  rises_after m n (None ∷ cs) h = rises_after m (n + 1) cs (omega (arith, h))
  rises_after m n (Some c ∷ cs) h = at (test n) (rises_after n (n + 1) cs (omega arith)) (rises_after m (n + 1) cs (omega (arith, h)))
    where
      at : (b : Bool) → IsChain nat_lt (n ∷ filter test (filled_from (n + 1) cs)) → IsChain nat_lt (m ∷ filter test (filled_from (n + 1) cs))
          → IsChain nat_lt (m ∷ cond b (n ∷ filter test (filled_from (n + 1) cs)) (filter test (filled_from (n + 1) cs)))
      at true with_n without_n = (less m n h, with_n)
      at false with_n without_n = without_n

  rises : (n : ℕ) (cs : List (Option A)) → IsChain nat_lt (filter test (filled_from n cs))
  rises n [] = tt
  rises n (None ∷ cs) = rises (n + 1) cs
  rises n (Some c ∷ cs) = at (test n) (rises_after n (n + 1) cs (omega arith)) (rises (n + 1) cs)
    where
      at : (b : Bool) → IsChain nat_lt (n ∷ filter test (filled_from (n + 1) cs)) → IsChain nat_lt (filter test (filled_from (n + 1) cs)) → IsChain nat_lt (cond b (n ∷ filter test (filled_from (n + 1) cs)) (filter test (filled_from (n + 1) cs)))
      at true with_n without_n = with_n
      at false with_n without_n = without_n

-- ---- what is sorted rises
none_same : (x : ℕ) (ys : List ℕ) → is_in x ys ≡ false → AllByRecursion (λ y. eqb x y ≡ false) ys
none_same x [] h = tt
none_same x (y ∷ ys) h = (first (nat_eq x y) h, none_same x ys (not_in_tail x y ys h))
  where
    first : (b : Bool) → b || is_in x ys ≡ false → b ≡ false
    first true e = absurd cc
    first false e = refl

distinct_from_once : (xs : List ℕ) → IsOnce xs → IsDistinct eqb xs
unfolding IsDistinct
distinct_from_once [] once = tt
distinct_from_once (x ∷ xs) once = (none_same x xs once.0, distinct_from_once xs once.1)

flips : (x y : ℕ) → eqb x y ≡ eqb y x
flips x y = at (nat_eq x y) (nat_eq y x) refl refl
  where
    at : (a b : Bool) → nat_eq x y ≡ a → nat_eq y x ≡ b → a ≡ b
    at true true e f = refl
    at false false e f = refl
    at true false e f = absurd (grind (arith, nat_tests, e, f))
    at false true e f = absurd (grind (arith, nat_tests, e, f))

rises_sorted : (xs ys : List ℕ) → IsOnce xs → IsPermutation xs ys → IsSorted nat_cmp ys → IsChain nat_lt ys
rises_sorted xs ys once moved sorted = chain_from_neighbours nat_lt ys (λ p i j e f.
    let w = slice_get_within ys (p + 1) j f in
    let r : get_or ys p 0 < get_or ys (p + 1) 0 = increasing p w in
    let a : get_or ys p 0 ≡ i = get_or_from_slice_get ys p i 0 e in
    let b : get_or ys (p + 1) 0 ≡ j = get_or_from_slice_get ys (p + 1) j 0 f in
    less i j (omega (arith, r, a, b)))
  where
    increasing : IsStrictlyIncreasing ys
    increasing = IsStrictlyIncreasing-from_distinct ys (IsNonDecreasingBy-from_sort (λ x. x) ys sorted) (IsDistinct-IsPermutation eqb flips xs ys moved (distinct_from_once xs once))

members_stay : (xs ys : List ℕ) → IsPermutation xs ys → (i : ℕ) → is_in i ys ≡ is_in i xs
members_stay xs ys moved i = at (is_in i xs) (is_in i ys) refl refl
  where
    at : (a b : Bool) → is_in i xs ≡ a → is_in i ys ≡ b → b ≡ a
    at true true e f = refl
    at false false e f = refl
    at true false e f = sym f ∙ in_from_contains ys i (Contains-permutation xs ys i moved (contains_from_in xs i e))
    at false true e f = sym (in_from_contains xs i (Contains-permutation ys xs i (IsPermutation-sym xs ys moved) (contains_from_in ys i f))) ∙ e

-- the members that meet the test, sorted
pub sorted_is_box : (test : ℕ → Bool) (ms : List (Option Course)) (xs picked ys : List ℕ) → Lists xs (live_of ms) → picked ≡ filter test xs → IsPermutation picked ys → IsSorted nat_cmp ys → ys ≡ filter test (filled_from 0 ms)
sorted_is_box test ms xs picked ys lists are moved sorted =
    same_chain nat_lt (λ i h. grind (arith, nat_tests, h)) (λ i j k h l. grind (arith, nat_tests, h, l)) ys (filter test (filled_from 0 ms))
    (rises_sorted picked ys (subst IsOnce (sym are) (kept-once test xs lists.once)) moved sorted) (rises test 0 ms)
    (λ i. members_stay picked ys moved i ∙ ap (is_in i) are ∙ kept-members test xs i ∙ ap (λ b. b && test i) (lists.same i) ∙ sym (kept-members test (filled_from 0 ms) i))
