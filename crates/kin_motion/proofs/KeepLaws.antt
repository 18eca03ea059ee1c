-- Keeps counted by group, and what comes before what.
use Rattle.std.proofs.Common.{◌≡◌, ◌⊎◌, inl, inr, ◌∙◌, refl, sym, ap, subst, arith, ℕ, zero, suc, ◌+◌, ◌≤◌, ◌<◌, length, Bool, true, false, cond, List, [], ◌∷◌, ◌++◌, Some, append_assoc, append-nil}
use Rattle.std.specs.Prelude.{◌&&◌, nat_eq, nat_le, nat_lt, Contains, slice_get, take}
use Rattle.std.specs.List.{list_all}
use Rattle.std.proofs.lemmas.Bool.{and_parts, and_from}
use Rattle.std.proofs.lemmas.Bool.Decides.{nat_tests}
use Rattle.std.proofs.lemmas.List.Sums.{sum_by-append}
use Rattle.kin_algebra.proofs.Members.{contains_none, contains_head, contains_tail, contains_cases, contains_from_get}
use Rattle.kin_motion.specs.declared.keep.Keep.{Keep}
use Rattle.kin_motion.specs.declared.keep.Keep.TheVariants.{Order, Extreme, Hull, Closest, Range, Nearest, Diameter, Boxes}
use Rattle.kin_motion.specs.Keeps.{group, limit, count_of, are_few, needs, have_kind, follow, may_keep}

-- two tests that pass together are the same
same_test : (a b : Bool) → (a ≡ true → b ≡ true) → (b ≡ true → a ≡ true) → a ≡ b
same_test true b to from = sym (to refl)
same_test false true to from = from refl
same_test false false to from = refl

each_passes : {A : Type 0} (test : A → Bool) (xs : List A) → list_all test xs ≡ true → (x : A) → Contains xs x → test x ≡ true
each_passes test [] e x there = absurd (contains_none x there)
each_passes test (y ∷ ys) e x there = at (contains_cases y x ys there) (each_passes test ys (and_parts _ _ e).1 x)
  where
    at : (y ≡ x) ⊎ Contains ys x → (Contains ys x → test x ≡ true) → test x ≡ true
    at (inl same) rest = subst (λ z. test z ≡ true) same (and_parts _ _ e).0
    at (inr later) rest = rest later

all_pass : {A : Type 0} (test : A → Bool) (xs : List A) → ((x : A) → Contains xs x → test x ≡ true) → list_all test xs ≡ true
all_pass test [] each = refl
all_pass test (x ∷ xs) each = and_from _ _ (each x (contains_head x xs)) (all_pass test xs (λ y there. each y (contains_tail x y xs there)))

-- ---- counts
count_both : (g : ℕ) (keeps more : List Keep) → count_of g (keeps ++ more) ≡ count_of g keeps + count_of g more
count_both g keeps more = sum_by-append (λ x. cond (nat_eq (group x) g) 1 0) keeps more

count_with : (g : ℕ) (keeps : List Keep) (k : Keep) → count_of g (keeps ++ k ∷ []) ≡ count_of g keeps + cond (nat_eq (group k) g) 1 0
count_with g keeps k = count_both g keeps (k ∷ []) ∙ ap (λ n. count_of g keeps + n) (omega arith)

count_first : (g : ℕ) (k : Keep) (keeps : List Keep) → count_of g (k ∷ keeps) ≡ cond (nat_eq (group k) g) 1 0 + count_of g keeps
count_first g k keeps = count_both g (k ∷ []) keeps ∙ ap (λ n. n + count_of g keeps) (omega arith)

pub is_of : (a b : ℕ) → a ≡ b → nat_eq a b ≡ true
is_of a b e = grind (arith, nat_tests, e)

pub is_not_of : (a b : ℕ) → ¬ (a ≡ b) → nat_eq a b ≡ false
is_not_of a b apart = grind (arith, nat_tests, apart)

of_own : (g : ℕ) → nat_eq g g ≡ true
of_own g = is_of g g refl

-- where one is counted, one is there
counted : (g : ℕ) (keeps : List Keep) → (count_of g keeps ≡ 0) ⊎ ((n : ℕ) × (k : Keep) × (slice_get keeps n ≡ Some k) × (group k ≡ g))
counted g [] = inl refl
counted g (k ∷ keeps) = at (nat_eq (group k) g) refl (counted g keeps)
  where
    at : (b : Bool) → nat_eq (group k) g ≡ b → (count_of g keeps ≡ 0) ⊎ ((n : ℕ) × (x : Keep) × (slice_get keeps n ≡ Some x) × (group x ≡ g))
        → (count_of g (k ∷ keeps) ≡ 0) ⊎ ((n : ℕ) × (x : Keep) × (slice_get (k ∷ keeps) n ≡ Some x) × (group x ≡ g))
    at true e rest = inr (zero, k, refl, grind (arith, nat_tests, e))
    at false e (inl none) = let first = count_first g k keeps in let not = ap (λ b. cond b 1 0 + count_of g keeps) e in inl (omega (arith, first, not, none))
    at false e (inr (n, x, there, of)) = inr (suc n, x, there, of)

-- and where one is there it is counted
one_counted : (keeps : List Keep) (n : ℕ) (k : Keep) → slice_get keeps n ≡ Some k → 1 ≤ count_of (group k) keeps
one_counted [] n k e = absurd cc
one_counted (x ∷ keeps) zero k e =
    let same : x ≡ k = cc in
    let first = count_first (group k) x keeps in
    let own : nat_eq (group x) (group k) ≡ true = ap (λ y. nat_eq (group y) (group k)) same ∙ of_own (group k) in
    let more = ap (λ b. cond b 1 0 + count_of (group k) keeps) own in
    omega (arith, first, more)
one_counted (x ∷ keeps) (suc n) k e =
    let first = count_first (group k) x keeps in
    let rest = one_counted keeps n k e in
    omega (arith, first, rest)

two_counted : (keeps : List Keep) (m n : ℕ) (k x : Keep) → m < n → slice_get keeps m ≡ Some k → slice_get keeps n ≡ Some x → group x ≡ group k → 2 ≤ count_of (group k) keeps
two_counted [] m n k x less here there same = absurd cc
two_counted (y ∷ keeps) m zero k x less here there same = absurd (omega (arith, less))
two_counted (y ∷ keeps) zero (suc n) k x less here there same =
    let is : y ≡ k = cc in
    let first = count_first (group k) y keeps in
    let own : nat_eq (group y) (group k) ≡ true = ap (λ z. nat_eq (group z) (group k)) is ∙ of_own (group k) in
    let more = ap (λ b. cond b 1 0 + count_of (group k) keeps) own in
    let rest = one_counted keeps n x there in
    let alike = ap (λ g. count_of g keeps) same in
    omega (arith, first, more, rest, alike)
two_counted (y ∷ keeps) (suc m) (suc n) k x less here there same =
    let first = count_first (group k) y keeps in
    let rest = two_counted keeps m n k x (omega (arith, less)) here there same in
    omega (arith, first, rest)

-- ---- few
few_of : (keeps : List Keep) → are_few keeps ≡ true → (k : Keep) → Contains keeps k → count_of (group k) keeps ≤ limit (group k)
few_of keeps few k there = let e = each_passes (λ x. nat_le (count_of (group x) keeps) (limit (group x))) keeps few k there in grind (arith, nat_tests, e)

few_from : (keeps : List Keep) → ((k : Keep) → Contains keeps k → count_of (group k) keeps ≤ limit (group k)) → are_few keeps ≡ true
few_from keeps each = all_pass (λ x. nat_le (count_of (group x) keeps) (limit (group x))) keeps (λ k there. let e = each k there in grind (arith, nat_tests, e))

few_of_group : (keeps : List Keep) → are_few keeps ≡ true → (g : ℕ) → count_of g keeps ≤ limit g
few_of_group keeps few g = at (counted g keeps)
  where
    at : (count_of g keeps ≡ 0) ⊎ ((n : ℕ) × (k : Keep) × (slice_get keeps n ≡ Some k) × (group k ≡ g)) → count_of g keeps ≤ limit g
    at (inl none) = omega (arith, none)
    at (inr (n, k, there, of)) = subst (λ h. count_of h keeps ≤ limit h) of (few_of keeps few k (contains_from_get keeps n k there))

-- with one more there are few exactly where there were fewer than the limit
few_with : (keeps : List Keep) (k : Keep) → are_few keeps ≡ true → nat_lt (count_of (group k) keeps) (limit (group k)) ≡ are_few (keeps ++ k ∷ [])
few_with keeps k few = same_test _ _ to from
  where
    own : count_of (group k) (keeps ++ k ∷ []) ≡ count_of (group k) keeps + 1
    own = count_with (group k) keeps k ∙ ap (λ b. count_of (group k) keeps + cond b 1 0) (of_own (group k))

    to : nat_lt (count_of (group k) keeps) (limit (group k)) ≡ true → are_few (keeps ++ k ∷ []) ≡ true
    to room = few_from (keeps ++ k ∷ []) (λ x there. at x (nat_eq (group k) (group x)) refl)
      where
        at : (x : Keep) (b : Bool) → nat_eq (group k) (group x) ≡ b → count_of (group x) (keeps ++ k ∷ []) ≤ limit (group x)
        at x true e =
            let same : group k ≡ group x = grind (arith, nat_tests, e) in
            let less : count_of (group k) keeps < limit (group k) = grind (arith, nat_tests, room) in
            subst (λ g. count_of g (keeps ++ k ∷ []) ≤ limit g) same (omega (arith, own, less))
        at x false e =
            let with = count_with (group x) keeps k in
            let not = ap (λ b. count_of (group x) keeps + cond b 1 0) e in
            let before = few_of_group keeps few (group x) in
            omega (arith, with, not, before)

    from : are_few (keeps ++ k ∷ []) ≡ true → nat_lt (count_of (group k) keeps) (limit (group k)) ≡ true
    from now = let most = few_of_group (keeps ++ k ∷ []) now (group k) in let e = own in grind (arith, nat_tests, most, e)

-- ---- what comes before what
follow_with : (before keeps : List Keep) (k : Keep) → follow before (keeps ++ k ∷ []) ≡ (follow before keeps && have_kind (before ++ keeps) (needs k))
follow_with before [] k = and_comes (have_kind before (needs k)) ∙ ap (λ ks. have_kind ks (needs k)) (sym (append-nil before))
  where
    and_comes : (b : Bool) → b && true ≡ b
    and_comes true = refl
    and_comes false = refl
follow_with before (x ∷ keeps) k =
    ap (λ b. have_kind before (needs x) && b) (follow_with (before ++ x ∷ []) keeps k ∙ ap (λ ks. follow (before ++ x ∷ []) keeps && have_kind ks (needs k)) (append_assoc before (x ∷ []) keeps))
    ∙ both (have_kind before (needs x)) (follow (before ++ x ∷ []) keeps) (have_kind (before ++ x ∷ keeps) (needs k))
  where
    both : (a b c : Bool) → (a && (b && c)) ≡ ((a && b) && c)
    both true b c = refl
    both false b c = refl

follow_before : (before keeps more : List Keep) → follow before (keeps ++ more) ≡ true → follow before keeps ≡ true
follow_before before [] more e = refl
follow_before before (x ∷ keeps) more e = and_from _ _ (and_parts _ _ e).0 (follow_before (before ++ x ∷ []) keeps more (and_parts _ _ e).1)

-- a world that keeps these may keep one more where what that is made of is there and there are fewer of its group than the limit
may_keep_with : (keeps : List Keep) (k : Keep) → may_keep keeps ≡ true → (have_kind keeps (needs k) && nat_lt (count_of (group k) keeps) (limit (group k))) ≡ may_keep (keeps ++ k ∷ [])
may_keep_with keeps k now =
    turned (have_kind keeps (needs k)) (nat_lt (count_of (group k) keeps) (limit (group k)))
    ∙ (λ t. few_with keeps k few t && last t)
  where
    few : are_few keeps ≡ true
    few = (and_parts (are_few keeps) (follow [] keeps) now).0

    turned : (a b : Bool) → (a && b) ≡ (b && a)
    turned true true = refl
    turned true false = refl
    turned false true = refl
    turned false false = refl

    last : have_kind keeps (needs k) ≡ follow [] (keeps ++ k ∷ [])
    last = sym (follow_with [] keeps k ∙ ap (λ b. b && have_kind keeps (needs k)) (and_parts (are_few keeps) (follow [] keeps) now).1)

-- so it is where what that is made of is there, by the two numbers
pub may_keep_by_count : (keeps : List Keep) (k : Keep) (n most : ℕ) → may_keep keeps ≡ true → have_kind keeps (needs k) ≡ true → n ≡ count_of (group k) keeps → most ≡ limit (group k)
    → nat_lt n most ≡ may_keep (keeps ++ k ∷ [])
may_keep_by_count keeps k n most now there e f =
    (λ t. nat_lt (e t) (f t)) ∙ sym (ap (λ b. b && nat_lt (count_of (group k) keeps) (limit (group k))) there) ∙ may_keep_with keeps k now

-- and it may not where that isn't there
pub may_not_keep : (keeps : List Keep) (k : Keep) → may_keep keeps ≡ true → have_kind keeps (needs k) ≡ false → false ≡ may_keep (keeps ++ k ∷ [])
may_not_keep keeps k now missing = sym (ap (λ b. b && nat_lt (count_of (group k) keeps) (limit (group k))) missing) ∙ may_keep_with keeps k now

-- a world may keep the first of those that it may keep
pub first_kept : (keeps more : List Keep) → may_keep (keeps ++ more) ≡ true → may_keep keeps ≡ true
first_kept keeps more now = and_from _ _ (few_from keeps fewer) (follow_before [] keeps more (and_parts _ _ now).1)
  where
    fewer : (k : Keep) → Contains keeps k → count_of (group k) keeps ≤ limit (group k)
    fewer k there = let all = few_of_group (keeps ++ more) (and_parts _ _ now).0 (group k) in let sum = count_both (group k) keeps more in omega (arith, all, sum)

-- where it may not keep the first of these it may not keep them all
pub not_all_kept : (first more keeps : List Keep) (b : Bool) → first ++ more ≡ keeps → b ≡ may_keep first → b ≡ false → false ≡ may_keep keeps
not_all_kept first more keeps true whole e missing = absurd cc
not_all_kept first more keeps false whole e missing = at (may_keep keeps) refl
  where
    at : (b : Bool) → may_keep keeps ≡ b → false ≡ b
    at false f = refl
    at true f = e ∙ first_kept first more (ap may_keep whole ∙ f)

-- every keep is of one of the groups
all_counted : (keeps : List Keep) → count_of 0 keeps + count_of 1 keeps + count_of 2 keeps + count_of 3 keeps + count_of 4 keeps + count_of 5 keeps
    + count_of 6 keeps ≡ length keeps
all_counted [] = refl
all_counted (k ∷ keeps) =
    (λ t. count_first 0 k keeps t + count_first 1 k keeps t + count_first 2 k keeps t + count_first 3 k keeps t + count_first 4 k keeps t + count_first 5 k keeps t
    + count_first 6 k keeps t)
    ∙ at k (count_of 0 keeps) (count_of 1 keeps) (count_of 2 keeps) (count_of 3 keeps) (count_of 4 keeps) (count_of 5 keeps) (count_of 6 keeps)
    (length keeps) (all_counted keeps)
  where
    of : ℕ → Keep → ℕ
    of g x = cond (nat_eq (group x) g) 1 0

    at : (x : Keep) (a h c r n d b m : ℕ) → a + h + c + r + n + d + b ≡ m
        → (cond (nat_eq (group x) 0) 1 0 + a) + (cond (nat_eq (group x) 1) 1 0 + h) + (cond (nat_eq (group x) 2) 1 0 + c) + (cond (nat_eq (group x) 3) 1 0 + r)
        + (cond (nat_eq (group x) 4) 1 0 + n) + (cond (nat_eq (group x) 5) 1 0 + d) + (cond (nat_eq (group x) 6) 1 0 + b) ≡ suc m
    at (Order dx dy) a h c r n d b m e = omega (arith, e)
    at (Extreme dx dy) a h c r n d b m e = omega (arith, e)
    at Hull a h c r n d b m e = omega (arith, e)
    at Closest a h c r n d b m e = omega (arith, e)
    at Range a h c r n d b m e = omega (arith, e)
    at Nearest a h c r n d b m e = omega (arith, e)
    at Diameter a h c r n d b m e = omega (arith, e)
    at (Boxes width height) a h c r n d b m e = omega (arith, e)

pub few_at_most : (keeps : List Keep) → may_keep keeps ≡ true → length keeps ≤ 22
few_at_most keeps now =
    let few = few_of_group keeps (and_parts _ _ now).0 in
    let a = few 0 in
    let h = few 1 in
    let c = few 2 in
    let r = few 3 in
    let n = few 4 in
    let d = few 5 in
    let b = few 6 in
    let sum = all_counted keeps in
    omega (arith, a, h, c, r, n, d, b, sum)

-- ---- the hull of a farthest pair
-- there is one hull at most
pub one_hull : (keeps : List Keep) → may_keep keeps ≡ true → (m n : ℕ) → slice_get keeps m ≡ Some Hull → slice_get keeps n ≡ Some Hull → m ≡ n
one_hull keeps now m n here there =
    let few = few_of_group keeps (and_parts _ _ now).0 1 in
    let less : ¬ (m < n) = λ l. let two = two_counted keeps m n Hull Hull l here there refl in omega (arith, two, few) in
    let more : ¬ (n < m) = λ l. let two = two_counted keeps n m Hull Hull l there here refl in omega (arith, two, few) in
    neither less more
  where
    neither : ¬ (m < n) → ¬ (n < m) → m ≡ n
    neither less more = grind (arith, less, more)

-- what a farthest pair is made of is counted before it
hull_counted : (before keeps : List Keep) (n : ℕ) → follow before keeps ≡ true → slice_get keeps n ≡ Some Diameter → 1 ≤ count_of 1 (before ++ take n keeps)
hull_counted before [] n e there = absurd cc
hull_counted before (x ∷ keeps) zero e there =
    let same : x ≡ Diameter = cc in
    let there : nat_lt 0 (count_of 1 before) ≡ true = subst (λ k. have_kind before (needs k) ≡ true) same (and_parts _ _ e).0 in
    subst (λ ks. 1 ≤ count_of 1 ks) (sym (append-nil before)) (grind (arith, nat_tests, there))
hull_counted before (x ∷ keeps) (suc n) e there =
    subst (λ ks. 1 ≤ count_of 1 ks) (append_assoc before (x ∷ []) (take n keeps)) (hull_counted (before ++ x ∷ []) keeps n (and_parts _ _ e).1 there)

get_taken : {A : Type 0} (xs : List A) (n m : ℕ) (x : A) → slice_get (take n xs) m ≡ Some x → (m < n) × (slice_get xs m ≡ Some x)
get_taken [] zero m x e = absurd cc
get_taken [] (suc n) m x e = absurd cc
get_taken (y ∷ ys) zero m x e = absurd cc
get_taken (y ∷ ys) (suc n) zero x e = (omega arith, e)
get_taken (y ∷ ys) (suc n) (suc m) x e = let h = get_taken ys n m x e in let less = h.0 in (omega (arith, less), h.1)

-- a hull comes before a farthest pair
pub hull_before : (keeps : List Keep) → may_keep keeps ≡ true → (n : ℕ) → slice_get keeps n ≡ Some Diameter → (m : ℕ) × (m < n) × (slice_get keeps m ≡ Some Hull)
hull_before keeps now n there = at (counted 1 (take n keeps)) (hull_counted [] keeps n (and_parts _ _ now).1 there)
  where
    is_hull : (k : Keep) → group k ≡ 1 → k ≡ Hull
    is_hull (Order dx dy) e = absurd (omega (arith, e))
    is_hull (Extreme dx dy) e = absurd (omega (arith, e))
    is_hull Hull e = refl
    is_hull Closest e = absurd (omega (arith, e))
    is_hull Range e = absurd (omega (arith, e))
    is_hull Nearest e = absurd (omega (arith, e))
    is_hull Diameter e = absurd (omega (arith, e))
    is_hull (Boxes width height) e = absurd (omega (arith, e))

    at : (count_of 1 (take n keeps) ≡ 0) ⊎ ((m : ℕ) × (k : Keep) × (slice_get (take n keeps) m ≡ Some k) × (group k ≡ 1)) → 1 ≤ count_of 1 (take n keeps)
        → (m : ℕ) × (m < n) × (slice_get keeps m ≡ Some Hull)
    at (inl none) some = absurd (omega (arith, none, some))
    at (inr (m, k, taken, of)) some = let h = get_taken keeps n m k taken in (m, h.0, h.1 ∙ ap (λ x. Some x) (is_hull k of))
