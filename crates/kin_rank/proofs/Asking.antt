-- What was found by places is what the definitions say of the lists.
use Rattle.std.proofs.Common.{◌≡◌, refl, sym, ap, ◌∙◌, subst, arith, List, [], ◌∷◌, ℕ, zero, suc, ◌+◌, ◌-◌, ◌<◌, ◌≤◌, ◌^◌, Bool, true, false, cond, ◌&&◌, ◌||◌, not, nat_eq, nat_lt, eqb, get_or, take, drop, filter, Option, Some, None, inl, inr}
use Rattle.std.specs.Prelude.{slice_get}
use Rattle.std.specs.List.{between, find, IsDistinct, AllByRecursion}
use Rattle.std.specs.List.Sorted.{IsPermutation, IsSorted, IsStrictlyIncreasing}
use Rattle.std.specs.Ordering.{nat_cmp}
use Rattle.std.proofs.lemmas.Bool.{and_parts, and_from, cases_lt, false_from_ne_true}
use Rattle.std.proofs.lemmas.Bool.Decides.{nat_tests}
use Rattle.std.proofs.lemmas.List.Sorted.{IsNonDecreasingBy-from_sort, list_any-IsPermutation}
use Rattle.std.proofs.lemmas.Map.Keys.{IsDistinct-IsPermutation, IsStrictlyIncreasing-from_distinct}
use Rattle.std.proofs.lemmas.Option.{same_Some}
use Rattle.kin_algebra.proofs.Tests.{same_test}
use Rattle.kin_rank.specs.declared.lists.Lists.{Lists}
use Rattle.kin_rank.specs.Finding.{IsBeyond, IsFirstOf, is_within}
use Rattle.kin_rank.specs.Leading.{place_in}
use Rattle.kin_rank.specs.Orders.{IsPlaced}
use Rattle.kin_rank.specs.Ranking.{first_in, has, in_ranges, numbers_from, AreDistinct}
use Rattle.kin_rank.specs.Sound.{ranking, IsSound}
use Rattle.kin_rank.proofs.Members.{has_from_get, get_from_has, get-numbers}
use Rattle.kin_rank.proofs.Placing.{apart, below, read}
use Rattle.kin_rank.proofs.Sameness.{found_too}

-- ---- parts of lists
get-drop : (n : ℕ) (xs : List ℕ) (j : ℕ) → slice_get (drop n xs) j ≡ slice_get xs (n + j)
get-drop zero xs j = ap (slice_get xs) (let e : j ≡ zero + j = omega arith in e)
get-drop (suc n) [] j = refl
get-drop (suc n) (x ∷ xs) j = get-drop n xs j ∙ ap (slice_get (x ∷ xs)) (let e : suc (n + j) ≡ suc n + j = omega arith in e)

get-take : (n : ℕ) (xs : List ℕ) (j : ℕ) → j < n → slice_get (take n xs) j ≡ slice_get xs j
get-take zero xs j l = absurd (omega arith)
get-take (suc n) [] j l = refl
get-take (suc n) (x ∷ xs) zero l = refl
get-take (suc n) (x ∷ xs) (suc j) l = get-take n xs j (omega arith)

taken : (n : ℕ) (xs : List ℕ) (j x : ℕ) → slice_get (take n xs) j ≡ Some x → (j < n) × (slice_get xs j ≡ Some x)
taken zero xs j x e = absurd cc
taken (suc n) [] j x e = absurd cc
taken (suc n) (y ∷ ys) zero x e = (omega arith, e)
taken (suc n) (y ∷ ys) (suc j) x e = let r = taken n ys j x e in (let l = r.0 in omega arith, r.1)

-- the number is in the list, at a place that isn't less than one
from_drop : (xs : List ℕ) (n x : ℕ) → has (drop n xs) x ≡ true → (p : ℕ) × (slice_get xs p ≡ Some x) × (n ≤ p)
from_drop xs n x h = let j = get_from_has (drop n xs) x h in (n + j.0, sym (get-drop n xs j.0) ∙ j.1, omega arith)

to_drop : (xs : List ℕ) (n p x : ℕ) → slice_get xs p ≡ Some x → n ≤ p → has (drop n xs) x ≡ true
to_drop xs n p x e l = has_from_get (drop n xs) (p - n) x (get-drop n xs (p - n) ∙ ap (slice_get xs) (let s : n + (p - n) ≡ p = omega (arith, l) in s) ∙ e)

from_between : (xs : List ℕ) (a b x : ℕ) → has (between a b xs) x ≡ true → (p : ℕ) × (slice_get xs p ≡ Some x) × (a ≤ p) × (p < b)
from_between xs a b x h =
    let j = get_from_has (between a b xs) x h in
    let t = taken (b - a) (drop a xs) j.0 x j.1 in
    (a + j.0, sym (get-drop a xs j.0) ∙ t.1, omega arith, let l = t.0 in omega (arith, l))

to_between : (xs : List ℕ) (a b p x : ℕ) → slice_get xs p ≡ Some x → a ≤ p → p < b → has (between a b xs) x ≡ true
to_between xs a b p x e l m = has_from_get (between a b xs) (p - a) x (get-take (b - a) (drop a xs) (p - a) (omega (arith, l, m)) ∙ get-drop a xs (p - a) ∙ ap (slice_get xs)
    (let s : a + (p - a) ≡ p = omega (arith, l) in s) ∙ e)

pub between_placed : (xs : List ℕ) (a b i j x : ℕ) → AreDistinct xs → slice_get (between a b xs) i ≡ Some x → slice_get (between a b xs) j ≡ Some x → i ≡ j
between_placed xs a b i j x distinct e f =
    let k = taken (b - a) (drop a xs) i x e in
    let l = taken (b - a) (drop a xs) j x f in
    let s = distinct (a + i) (a + j) x (sym (get-drop a xs i) ∙ k.1) (sym (get-drop a xs j) ∙ l.1) in
    omega (arith, s)

pub between_at : (xs : List ℕ) (a b i x : ℕ) → slice_get (between a b xs) i ≡ Some x → slice_get xs (a + i) ≡ Some x
between_at xs a b i x e = sym (get-drop a xs i) ∙ (taken (b - a) (drop a xs) i x e).1

-- ---- the first in T
find_none : (test : ℕ → Bool) (ts : List ℕ) → ((k y : ℕ) → slice_get ts k ≡ Some y → test y ≡ false) → find test ts ≡ None
find_none test [] none = refl
find_none test (y ∷ ys) none = at (test y) (none zero y refl) (find_none test ys (λ k. none (suc k)))
  where
    at : (b : Bool) → b ≡ false → find test ys ≡ None → cond b (Some y) (find test ys) ≡ None
    at true e r = absurd cc
    at false e r = r

find_first : (test : ℕ → Bool) (ts : List ℕ) (k x : ℕ) → slice_get ts k ≡ Some x → test x ≡ true → ((j y : ℕ) → j < k → slice_get ts j ≡ Some y → test y ≡ false) → find test ts ≡ Some x
find_first test [] k x e t none = absurd cc
find_first test (y ∷ ys) zero x e t none =
    let s : y ≡ x = same_Some y x e in
    ap (λ (b : Bool). cond b (Some y) (find test ys)) (ap test s ∙ t) ∙ ap (λ (n : ℕ). Some n) s
find_first test (y ∷ ys) (suc k) x e t none = ap (λ (b : Bool). cond b (Some y) (find test ys)) (none zero y (omega arith) refl) ∙ find_first test ys k x e t (λ j z l. none (suc j) z (omega arith))

module _ (b : Lists) (sound : IsSound b) where
  module _ (fa ga : ℕ) where
    abbrev test : ℕ → Bool
    test x = has (drop (fa + 1) b.f.items.items) x && has (drop (ga + 1) b.g.items.items) x

    beyond : (x : ℕ) → test x ≡ true → IsBeyond b.f.items.items b.g.places.items fa ga x
    beyond x e =
        let parts = and_parts (has (drop (fa + 1) b.f.items.items) x) (has (drop (ga + 1) b.g.items.items) x) e in
        let p = from_drop b.f.items.items (fa + 1) x parts.0 in
        let q = from_drop b.g.items.items (ga + 1) x parts.1 in
        let r = read b.g.items.items b.g.places.items sound.listed.g_placed q.0 x q.1 in
        record { place = p.0; at = p.1; f_after = let l = p.2 in omega (arith, l); g_after = let l = q.2 in omega (arith, l, r) }

    tested : (x : ℕ) → IsBeyond b.f.items.items b.g.places.items fa ga x → test x ≡ true
    tested x u =
        let q = found_too b.f.items.items b.g.items.items sound.listed.same_g u.place x u.at in
        let r = read b.g.items.items b.g.places.items sound.listed.g_placed q.0 x q.1 in
        and_from (has (drop (fa + 1) b.f.items.items) x) (has (drop (ga + 1) b.g.items.items) x)
        (to_drop b.f.items.items (fa + 1) u.place x u.at (let l = u.f_after in omega (arith, l))) (to_drop b.g.items.items (ga + 1) q.0 x q.1 (let l = u.g_after in omega (arith, l, r)))

    pub first_is_first_in : (result : Option ℕ) → IsFirstOf b.t.places.items None (IsBeyond b.f.items.items b.g.places.items fa ga) result → result ≡ first_in (ranking b) fa ga
    first_is_first_in None first = sym (find_none test b.t.items.items (λ k y e. false_from_ne_true (test y)
        (λ t. let n = first.not_after y (beyond y t) in let f : None ≡ Some n.number = n.is in absurd cc)))
    first_is_first_in (Some x) first =
        let u : IsBeyond b.f.items.items b.g.places.items fa ga x = elim (first.from x refl) [
          | inl e ↦ absurd cc
          | inr v ↦ v
        ] in
        let k = found_too b.f.items.items b.t.items.items sound.listed.same_t u.place x u.at in
        sym (find_first test b.t.items.items k.0 x k.1 (tested x u) (λ j y l e. false_from_ne_true (test y) (λ t.
        let n = first.not_after y (beyond y t) in
        let same : n.number ≡ x = sym (same_Some x n.number n.is) in
        let i = read b.t.items.items b.t.places.items sound.listed.t_placed k.0 x k.1 in
        let m = read b.t.items.items b.t.places.items sound.listed.t_placed j y e in
        let before = n.before in
        let there = ap (place_in b.t.places.items) same in
        absurd (omega (arith, i, m, before, there, l)))))

-- ---- the numbers in two ranges
within_from : (places : List ℕ) (range : ℕ × ℕ) (x : ℕ) → is_within places range x ≡ true → (range.0 ≤ place_in places x) × (place_in places x < range.1)
within_from places range x e =
    let parts = and_parts (not (nat_lt (place_in places x) range.0)) (nat_lt (place_in places x) range.1) e in
    (let p = parts.0 in grind (arith, nat_tests, p), let p = parts.1 in grind (arith, nat_tests, p))

within_to : (places : List ℕ) (range : ℕ × ℕ) (x : ℕ) → range.0 ≤ place_in places x → place_in places x < range.1 → is_within places range x ≡ true
within_to places range x l m = and_from (not (nat_lt (place_in places x) range.0)) (nat_lt (place_in places x) range.1) (grind (arith, nat_tests, l)) (grind (arith, nat_tests, m))

module _ (xs ys xp yp : List ℕ) (px : IsPlaced xs xp) (py : IsPlaced ys yp) (same : (x : ℕ) → has xs x ≡ has ys x) where
  -- a number at a place of one range lies in the other range, by its place there or by the list
  pub range_test : (r q : ℕ × ℕ) (x : ℕ) → has (between r.0 r.1 xs) x && is_within yp q x ≡ has (between r.0 r.1 xs) x && has (between q.0 q.1 ys) x
  range_test r q x = same_test (has (between r.0 r.1 xs) x && is_within yp q x) (has (between r.0 r.1 xs) x && has (between q.0 q.1 ys) x) forth back
    where
      forth : has (between r.0 r.1 xs) x && is_within yp q x ≡ true → has (between r.0 r.1 xs) x && has (between q.0 q.1 ys) x ≡ true
      forth e =
          let parts = and_parts (has (between r.0 r.1 xs) x) (is_within yp q x) e in
          let p = from_between xs r.0 r.1 x parts.0 in
          let k = found_too xs ys same p.0 x p.1 in
          let i = read ys yp py k.0 x k.1 in
          let w = within_from yp q x parts.1 in
          and_from (has (between r.0 r.1 xs) x) (has (between q.0 q.1 ys) x) parts.0 (to_between ys q.0 q.1 k.0 x k.1 (let l = w.0 in omega (arith, i, l)) (let l = w.1 in omega (arith, i, l)))

      back : has (between r.0 r.1 xs) x && has (between q.0 q.1 ys) x ≡ true → has (between r.0 r.1 xs) x && is_within yp q x ≡ true
      back e =
          let parts = and_parts (has (between r.0 r.1 xs) x) (has (between q.0 q.1 ys) x) e in
          let k = from_between ys q.0 q.1 x parts.1 in
          let i = read ys yp py k.0 x k.1 in
          and_from (has (between r.0 r.1 xs) x) (is_within yp q x) parts.0 (within_to yp q x (let l = k.2 in omega (arith, i, l)) (let l = k.3 in omega (arith, i, l)))

-- ---- rising lists
abbrev IsRisingFrom : ℕ → List ℕ → Type 0
IsRisingFrom a [] = Unit {0}
IsRisingFrom a (y ∷ ys) = (a ≤ y) × IsRisingFrom (y + 1) ys

from_less : (a b : ℕ) (ys : List ℕ) → b ≤ a → IsRisingFrom a ys → IsRisingFrom b ys
from_less a b [] l r = tt
from_less a b (y ∷ ys) l r = (let m = r.0 in omega (arith, l, m), r.1)

absent_below : (a x : ℕ) (ys : List ℕ) → IsRisingFrom a ys → x < a → has ys x ≡ false
absent_below a x [] r l = refl
absent_below a x (y ∷ ys) r l = let m = r.0 in let k = absent_below (y + 1) x ys r.1 (omega (arith, l, m)) in let n : nat_eq x y ≡ false = grind (arith, nat_tests, l, m) in (λ i. n i || k i)

has_head : (x : ℕ) (xs : List ℕ) → has (x ∷ xs) x ≡ true
has_head x xs = has_from_get (x ∷ xs) zero x refl

one_rising : (a : ℕ) (xs ys : List ℕ) → IsRisingFrom a xs → IsRisingFrom a ys → ((x : ℕ) → has xs x ≡ has ys x) → xs ≡ ys
one_rising a [] [] p q same = refl
one_rising a [] (y ∷ ys) p q same = absurd (let e : false ≡ true = same y ∙ has_head y ys in cc)
one_rising a (x ∷ xs) [] p q same = absurd (let e : true ≡ false = sym (has_head x xs) ∙ same x in cc)
one_rising a (x ∷ xs) (y ∷ ys) p q same =
    let e : x ≡ y = heads in
    let q' : IsRisingFrom (x + 1) ys = subst (λ (n : ℕ). IsRisingFrom (n + 1) ys) (sym e) q.1 in
    let rest = one_rising (x + 1) xs ys p.1 q' (λ z. tails e q' z) in
    (λ i. e i ∷ rest i)
  where
    heads : x ≡ y
    heads = elim (cases_lt x y) [
      | inl l ↦ absurd (let f : true ≡ false = sym (has_head x xs) ∙ same x ∙ absent_below y x (y ∷ ys) (omega arith, q.1) l in cc)
      | inr l ↦ elim (cases_lt y x) [
        | inl m ↦ absurd (let f : false ≡ true = sym (absent_below x y (x ∷ xs) (omega arith, p.1) m) ∙ same y ∙ has_head y ys in cc)
        | inr m ↦ omega (arith, l, m)
      ]
    ]

    tails : x ≡ y → IsRisingFrom (x + 1) ys → (z : ℕ) → has xs z ≡ has ys z
    tails e q' z = at (nat_eq z x) refl
      where
        at : (b : Bool) → nat_eq z x ≡ b → has xs z ≡ has ys z
        at true f = let s : z ≡ x = grind (arith, nat_tests, f) in absent_below (x + 1) z xs p.1 (omega (arith, s)) ∙ sym (absent_below (x + 1) z ys q' (omega (arith, s)))
        at false f =
            let g : nat_eq z y ≡ false = ap (nat_eq z) (sym e) ∙ f in
            ap (λ (b : Bool). b || has xs z) (sym f) ∙ same z ∙ ap (λ (b : Bool). b || has ys z) g

rising_numbers : (test : ℕ → Bool) (a n : ℕ) → IsRisingFrom a (filter test (numbers_from a n))
rising_numbers test a zero = tt
rising_numbers test a (suc n) = at (test a) (rising_numbers test (a + 1) n)
  where
    at : (b : Bool) → IsRisingFrom (a + 1) (filter test (numbers_from (a + 1) n)) → IsRisingFrom a (cond b (a ∷ filter test (numbers_from (a + 1) n)) (filter test (numbers_from (a + 1) n)))
    at true r = (omega arith, r)
    at false r = from_less (a + 1) a (filter test (numbers_from (a + 1) n)) (omega arith) r

rising_from : (a : ℕ) (ys : List ℕ) → IsStrictlyIncreasing ys → ((y : ℕ) → slice_get ys zero ≡ Some y → a ≤ y) → IsRisingFrom a ys
rising_from a [] up low = tt
rising_from a (y ∷ []) up low = (low y refl, tt)
rising_from a (y ∷ z ∷ zs) up low = (
  low y refl,
  rising_from (y + 1) (z ∷ zs) (λ k l. subst (λ (n : ℕ). get_or (z ∷ zs) k 0 < get_or (y ∷ z ∷ zs) n 0)
      (let e : suc k + 1 ≡ suc (k + 1) = omega arith in e) (up (suc k) (omega (arith, l)))) (λ w e. let s : z ≡ w = same_Some z w e in let u : y < z = up zero (omega arith) in omega (arith, s, u)),
)

pub has-filter : (test : ℕ → Bool) (x : ℕ) (xs : List ℕ) → has (filter test xs) x ≡ has xs x && test x
has-filter test x [] = refl
has-filter test x (y ∷ ys) = at (test y) (nat_eq x y) refl refl (has-filter test x ys)
  where
    at : (b c : Bool) → test y ≡ b → nat_eq x y ≡ c → has (filter test ys) x ≡ has ys x && test x → has (cond b (y ∷ filter test ys) (filter test ys)) x ≡ (c || has ys x) && test x
    at true true e f r = ap (λ (d : Bool). d || has (filter test ys) x) f ∙ sym (ap test (let s : x ≡ y = grind (arith, nat_tests, f) in s) ∙ e)
    at true false e f r = ap (λ (d : Bool). d || has (filter test ys) x) f ∙ r
    at false true e f r = r ∙ last (has ys x) (test x) (ap test (let s : x ≡ y = grind (arith, nat_tests, f) in s) ∙ e)
      where
        last : (c d : Bool) → d ≡ false → c && d ≡ d
        last true d e = refl
        last false d e = sym e
    at false false e f r = r

-- a rising list of the numbers below a bound that pass a test
pub rising_is : (test : ℕ → Bool) (n : ℕ) (ys : List ℕ) → IsStrictlyIncreasing ys → ((x : ℕ) → has ys x ≡ test x) → ((x : ℕ) → test x ≡ true → x < n) → ys ≡ filter test (numbers_from 0 n)
rising_is test n ys up each low = one_rising 0 ys (filter test (numbers_from 0 n)) (rising_from 0 ys up (λ y e. omega arith)) (rising_numbers test 0 n)
    (λ x. each x ∙ sym (has-filter test x (numbers_from 0 n) ∙ passes x (test x) refl))
  where
    passes : (x : ℕ) (b : Bool) → test x ≡ b → has (numbers_from 0 n) x && test x ≡ test x
    passes x true e = ap (λ (b : Bool). b && test x) (has_from_get (numbers_from 0 n) x x (get-numbers 0 n x (low x e) ∙ ap (λ (m : ℕ). Some m) (let s : 0 + x ≡ x = omega arith in s)))
    passes x false e = ap (λ (b : Bool). has (numbers_from 0 n) x && b) e ∙ none (has (numbers_from 0 n) x) ∙ sym e
      where
        none : (c : Bool) → c && false ≡ false
        none true = refl
        none false = refl

-- ---- what is sorted rises
flips : (x y : ℕ) → eqb x y ≡ eqb y x
flips x y = at (nat_eq x y) (nat_eq y x) refl refl
  where
    at : (a b : Bool) → nat_eq x y ≡ a → nat_eq y x ≡ b → a ≡ b
    at true true e f = refl
    at false false e f = refl
    at true false e f = absurd (grind (arith, nat_tests, e, f))
    at false true e f = absurd (grind (arith, nat_tests, e, f))

none_same : (x : ℕ) (ys : List ℕ) → has ys x ≡ false → AllByRecursion (λ y. eqb x y ≡ false) ys
none_same x [] h = tt
none_same x (y ∷ ys) h = (first (nat_eq x y) h, none_same x ys (second (nat_eq x y) h))
  where
    first : (b : Bool) → b || has ys x ≡ false → b ≡ false
    first true e = absurd cc
    first false e = refl

    second : (b : Bool) → b || has ys x ≡ false → has ys x ≡ false
    second true e = absurd cc
    second false e = e

distinct_filter : (test : ℕ → Bool) (xs : List ℕ) → AreDistinct xs → IsDistinct eqb (filter test xs)
unfolding IsDistinct
distinct_filter test [] apart = tt
distinct_filter test (x ∷ xs) apart = at (test x) (distinct_filter test xs (λ i j y e f. let s = apart (suc i) (suc j) y e f in omega arith))
  where
    gone : has xs x ≡ false
    gone = false_from_ne_true (has xs x) (λ e. let p = get_from_has xs x e in absurd (let s = apart zero (suc p.0) x refl p.1 in omega (arith, s)))

    at : (b : Bool) → IsDistinct eqb (filter test xs) → IsDistinct eqb (cond b (x ∷ filter test xs) (filter test xs))
    at true r = (none_same x (filter test xs) (has-filter test x xs ∙ ap (λ (c : Bool). c && test x) gone), r)
    at false r = r

pub sorted_rises : (test : ℕ → Bool) (xs picked ys : List ℕ) → AreDistinct xs → picked ≡ filter test xs → IsPermutation picked ys → IsSorted nat_cmp ys → IsStrictlyIncreasing ys
sorted_rises test xs picked ys apart are moved sorted = IsStrictlyIncreasing-from_distinct ys (IsNonDecreasingBy-from_sort (λ x. x) ys sorted)
    (IsDistinct-IsPermutation eqb flips picked ys moved (subst (IsDistinct eqb) (sym are) (distinct_filter test xs apart)))

pub sorted_has : (test : ℕ → Bool) (xs picked ys : List ℕ) → picked ≡ filter test xs → IsPermutation picked ys → (x : ℕ) → has ys x ≡ has xs x && test x
sorted_has test xs picked ys are moved x = sym (list_any-IsPermutation (nat_eq x) picked ys moved) ∙ ap (λ (z : List ℕ). has z x) are ∙ has-filter test x xs

-- a number in the range of F is below the bound
pub in_ranges_are : (b : Lists) → IsSound b → (r q : ℕ × ℕ) (ys : List ℕ) → IsStrictlyIncreasing ys
    → ((x : ℕ) → has ys x ≡ has (between r.0 r.1 b.f.items.items) x && has (between q.0 q.1 b.g.items.items) x) → ys ≡ in_ranges (ranking b) r q
in_ranges_are b sound r q ys up each = rising_is (λ x. has (between r.0 r.1 b.f.items.items) x && has (between q.0 q.1 b.g.items.items) x) (2 ^ b.size) ys up each (λ x e.
    let p = from_between b.f.items.items r.0 r.1 x (and_parts (has (between r.0 r.1 b.f.items.items) x) (has (between q.0 q.1 b.g.items.items) x) e).0 in
    subst (λ (n : ℕ). x < n) sound.listed.f_room (below b.f.items.items b.f.places.items sound.listed.f_placed p.0 x p.1))
