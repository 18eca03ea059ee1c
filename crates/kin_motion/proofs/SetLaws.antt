-- Lists that have exactly what is asked, each once: joined, mapped, and sorted into one list.
use Rattle.std.proofs.Common.{◌≡◌, ◌⊎◌, inl, inr, refl, sym, ap, ◌∙◌, subst, arith, List, [], ◌∷◌, ◌++◌, ℕ, zero, suc, ◌+◌, ◌<◌, ◌≤◌, map, true, false, cond, Bool}
use Rattle.std.specs.Prelude.{Contains, ◌↔◌, flat_map, filter}
use Rattle.std.proofs.lemmas.Bool.{both_ways}
use Rattle.std.proofs.lemmas.List.Elements.{Contains-append_left, Contains-append_right, Contains-append_cases}
pub use Rattle.kin_algebra.proofs.Members.{contains_none, contains_head, contains_tail, contains_cases}
use Rattle.kin_algebra.proofs.Members.{contains_from_get, get_from_contains}
use Rattle.kin_motion.specs.Numbers.{numbers_from, is_in, IsOnce}
use Rattle.kin_motion.specs.Sets.{AreDistinct, ListsExactly}
use Rattle.kin_motion.proofs.Members.{in_from_contains}

-- an item in front that isn't behind
pub distinct_cons : {A : Type 0} (x : A) (xs : List A) → ¬ (Contains xs x) → AreDistinct xs → AreDistinct (x ∷ xs)
distinct_cons {A} x xs new d zero zero z e f = refl
distinct_cons {A} x xs new d zero (suc j) z e f = absurd (new (contains_from_get xs j x (f ∙ sym e)))
distinct_cons {A} x xs new d (suc i) zero z e f = absurd (new (contains_from_get xs i x (e ∙ sym f)))
distinct_cons {A} x xs new d (suc i) (suc j) z e f = ap suc (d i j z e f)

pub distinct_head : {A : Type 0} (x : A) (xs : List A) → AreDistinct (x ∷ xs) → ¬ (Contains xs x)
distinct_head {A} x xs d h = let p = get_from_contains xs x h in let e : zero ≡ suc p.0 = d zero (suc p.0) x refl p.1 in absurd cc

pub distinct_tail : {A : Type 0} (x : A) (xs : List A) → AreDistinct (x ∷ xs) → AreDistinct xs
distinct_tail {A} x xs d i j z e f = let h : suc i ≡ suc j = d (suc i) (suc j) z e f in cc

pub distinct_append : {A : Type 0} (xs ys : List A) → AreDistinct xs → AreDistinct ys → ((z : A) → Contains xs z → Contains ys z → ⊥) → AreDistinct (xs ++ ys)
distinct_append {A} [] ys d e apart = e
distinct_append {A} (x ∷ xs) ys d e apart =
    distinct_cons x (xs ++ ys) (λ h. at (Contains-append_cases xs ys x h)) (distinct_append xs ys (distinct_tail x xs d) e (λ z h k. apart z (contains_tail x z xs h) k))
  where
    at : Contains xs x ⊎ Contains ys x → ⊥
    at (inl h) = distinct_head x xs d h
    at (inr k) = apart x (contains_head x xs) k

pub distinct_none : {A : Type 0} → AreDistinct {A = A} []
distinct_none {A} i j z e f = absurd cc

pub exactly_none : {A : Type 0} (which : A → Type 0) → ((z : A) → ¬ (which z)) → ListsExactly [] which
exactly_none {A} which none = record { once = distinct_none; each = λ z. ((λ h. absurd (contains_none z h)), (λ h. absurd (none z h))) }

-- exactly one item
pub exactly_one : {A : Type 0} (x : A) (which : A → Type 0) → which x → ((z : A) → which z → z ≡ x) → ListsExactly (x ∷ []) which
exactly_one {A} x which own only = record {
  once = distinct_cons x [] (contains_none x) distinct_none;
  each = λ z. (
    λ h. at z (contains_cases x z [] h),
    λ w. subst (λ (y : A). Contains (x ∷ []) y) (sym (only z w)) (contains_head x []),
  );
}
  where
    at : (z : A) → (x ≡ z) ⊎ Contains [] z → which z
    at z (inl e) = subst which e own
    at z (inr h) = absurd (contains_none z h)

-- two such lists, of which no item is in both
pub exactly_both : {A : Type 0} (xs ys : List A) (p q : A → Type 0) → ListsExactly xs p → ListsExactly ys q → ((z : A) → p z → q z → ⊥) → ListsExactly (xs ++ ys) (λ z. p z ⊎ q z)
exactly_both {A} xs ys p q l m apart = record {
  once = distinct_append xs ys l.once m.once (λ z h k. apart z ((l.each z).0 h) ((m.each z).0 k));
  each = λ z. (
    λ h. to z (Contains-append_cases xs ys z h),
    λ w. from z w,
  );
}
  where
    to : (z : A) → Contains xs z ⊎ Contains ys z → p z ⊎ q z
    to z (inl h) = inl ((l.each z).0 h)
    to z (inr h) = inr ((m.each z).0 h)

    from : (z : A) → p z ⊎ q z → Contains (xs ++ ys) z
    from z (inl w) = Contains-append_left xs ys z ((l.each z).1 w)
    from z (inr w) = Contains-append_right xs ys z ((m.each z).1 w)

-- the same list, with what is asked in other words
pub exactly_in_words : {A : Type 0} (xs : List A) (p q : A → Type 0) → ((z : A) → p z ↔ q z) → ListsExactly xs p → ListsExactly xs q
exactly_in_words {A} xs p q same l = record { once = l.once; each = λ z. ((λ h. (same z).0 ((l.each z).0 h)), (λ w. (l.each z).1 ((same z).1 w))) }

-- what a mapped list has
pub contains_mapped : {A B : Type 0} (f : A → B) (xs : List A) (z : B) → Contains (map f xs) z → (x : A) × Contains xs x × (z ≡ f x)
contains_mapped {A} {B} f [] z h = absurd (contains_none z h)
contains_mapped {A} {B} f (x ∷ xs) z h = at (contains_cases (f x) z (map f xs) h) (contains_mapped f xs z)
  where
    at : (f x ≡ z) ⊎ Contains (map f xs) z → (Contains (map f xs) z → (y : A) × Contains xs y × (z ≡ f y)) → (y : A) × Contains (x ∷ xs) y × (z ≡ f y)
    at (inl e) g = (x, contains_head x xs, sym e)
    at (inr l) g = let r = g l in (r.0, contains_tail x r.0 xs r.1, r.2)

pub contains_map : {A B : Type 0} (f : A → B) (xs : List A) (x : A) → Contains xs x → Contains (map f xs) (f x)
contains_map {A} {B} f [] x h = absurd (contains_none x h)
contains_map {A} {B} f (y ∷ ys) x h = at (contains_cases y x ys h) (contains_map f ys x)
  where
    at : (y ≡ x) ⊎ Contains ys x → (Contains ys x → Contains (map f ys) (f x)) → Contains (f y ∷ map f ys) (f x)
    at (inl e) g = subst (λ (z : A). Contains (f y ∷ map f ys) (f z)) e (contains_head (f y) (map f ys))
    at (inr l) g = contains_tail (f y) (f x) (map f ys) (g l)

pub distinct_mapped : {A B : Type 0} (f : A → B) (xs : List A) → ((x y : A) → f x ≡ f y → x ≡ y) → AreDistinct xs → AreDistinct (map f xs)
distinct_mapped {A} {B} f [] one d = distinct_none
distinct_mapped {A} {B} f (x ∷ xs) one d =
    distinct_cons (f x) (map f xs) (λ h. let r = contains_mapped f xs (f x) h in distinct_head x xs d (subst (λ (y : A). Contains xs y) (sym (one x r.0 r.2)) r.1)) (distinct_mapped f xs one (distinct_tail x xs d))

-- a list under a function that tells items apart
pub exactly_mapped : {A B : Type 0} (f : A → B) (xs : List A) (p : A → Type 0) → ((x y : A) → f x ≡ f y → x ≡ y) → ListsExactly xs p → ListsExactly (map f xs) (λ z. (x : A) × p x × (z ≡ f x))
exactly_mapped {A} {B} f xs p one l = record {
  once = distinct_mapped f xs one l.once;
  each = λ z. (
    λ h. let r = contains_mapped f xs z h in (r.0, (l.each r.0).0 r.1, r.2),
    λ w. subst (λ (y : B). Contains (map f xs) y) (sym w.2) (contains_map f xs w.0 ((l.each w.0).1 w.1)),
  );
}

-- one list for each number
pub exactly_in_turn : {A : Type 0} (f : ℕ → List A) (p : ℕ → A → Type 0) → ((n : ℕ) → ListsExactly (f n) (p n)) → ((m n : ℕ) (z : A) → p m z → p n z → m ≡ n)
    → (a k : ℕ) → ListsExactly (flat_map f (numbers_from a k)) (λ z. (n : ℕ) × (a ≤ n) × (n < a + k) × p n z)
exactly_in_turn {A} f p each apart a zero = exactly_none _ (λ z w. let h : a ≤ w.0 = w.1 in let g : w.0 < a + 0 = w.2 in omega (arith, h, g))
exactly_in_turn {A} f p each apart a (suc k) =
    exactly_in_words (f a ++ flat_map f (numbers_from (a + 1) k)) _ _ words
    (exactly_both (f a) (flat_map f (numbers_from (a + 1) k)) (p a) _ (each a) (exactly_in_turn f p each apart (a + 1) k)
    (λ z w v. let e : a ≡ v.0 = apart a v.0 z w v.3 in let h : a + 1 ≤ v.0 = v.1 in omega (arith, e, h)))
  where
    to : (z : A) → p a z ⊎ ((n : ℕ) × (a + 1 ≤ n) × (n < a + 1 + k) × p n z) → (n : ℕ) × (a ≤ n) × (n < a + suc k) × p n z
    to z (inl w) = (a, omega arith, omega arith, w)
    to z (inr (n, h, g, w)) = (n, omega (arith, h), omega (arith, g), w)

    first_or_not : (n : ℕ) → a ≤ n → (a ≡ n) ⊎ (a + 1 ≤ n)
    first_or_not n h = grind (arith, h)

    from : (z : A) → (n : ℕ) × (a ≤ n) × (n < a + suc k) × p n z → p a z ⊎ ((n : ℕ) × (a + 1 ≤ n) × (n < a + 1 + k) × p n z)
    from z (n, h, g, w) = at (first_or_not n h)
      where
        at : (a ≡ n) ⊎ (a + 1 ≤ n) → p a z ⊎ ((n : ℕ) × (a + 1 ≤ n) × (n < a + 1 + k) × p n z)
        at (inl e) = inl (subst (λ (m : ℕ). p m z) (sym e) w)
        at (inr l) = inr (n, l, omega (arith, g), w)

    words : (z : A) → (p a z ⊎ ((n : ℕ) × (a + 1 ≤ n) × (n < a + 1 + k) × p n z)) ↔ ((n : ℕ) × (a ≤ n) × (n < a + suc k) × p n z)
    words z = (to z, from z)

-- ---- what a filter keeps
module _ {A : Type 0} (test : A → Bool) where
  pub filter-sound : (xs : List A) (z : A) → Contains (filter test xs) z → Contains xs z × (test z ≡ true)
  filter-sound [] z h = absurd (contains_none z h)
  filter-sound (x ∷ xs) z h = at (test x) refl h (filter-sound xs z)
    where
      at : (b : Bool) → test x ≡ b → Contains (cond b (x ∷ filter test xs) (filter test xs)) z → (Contains (filter test xs) z → Contains xs z × (test z ≡ true)) → Contains (x ∷ xs) z × (test z ≡ true)
      at false e h r = let w = r h in (contains_tail x z xs w.0, w.1)
      at true e h r = first (contains_cases x z (filter test xs) h)
        where
          first : (x ≡ z) ⊎ Contains (filter test xs) z → Contains (x ∷ xs) z × (test z ≡ true)
          first (inl f) = (subst (λ (v : A). Contains (x ∷ xs) v) f (contains_head x xs), sym (ap test f) ∙ e)
          first (inr k) = let w = r k in (contains_tail x z xs w.0, w.1)

  pub filter-complete : (xs : List A) (z : A) → Contains xs z → test z ≡ true → Contains (filter test xs) z
  filter-complete [] z h e = absurd (contains_none z h)
  filter-complete (x ∷ xs) z h e = at (test x) refl (contains_cases x z xs h) (λ k. filter-complete xs z k e)
    where
      at : (b : Bool) → test x ≡ b → (x ≡ z) ⊎ Contains xs z → (Contains xs z → Contains (filter test xs) z) → Contains (cond b (x ∷ filter test xs) (filter test xs)) z
      at true f (inl g) r = subst (λ (v : A). Contains (x ∷ filter test xs) v) g (contains_head x (filter test xs))
      at true f (inr k) r = contains_tail x z (filter test xs) (r k)
      at false f (inl g) r = absurd (let clash : false ≡ true = sym f ∙ ap test g ∙ e in cc)
      at false f (inr k) r = r k

-- a list mapped by a function that tells its items apart
pub distinct_mapped_on : {A B : Type 0} (f : A → B) (xs : List A) → ((x y : A) → Contains xs x → Contains xs y → f x ≡ f y → x ≡ y) → AreDistinct xs → AreDistinct (map f xs)
distinct_mapped_on {A} {B} f [] one d = distinct_none
distinct_mapped_on {A} {B} f (x ∷ xs) one d =
    distinct_cons (f x) (map f xs)
    (λ h. let r = contains_mapped f xs (f x) h in distinct_head x xs d (subst (λ (y : A). Contains xs y) (sym (one x r.0 (contains_head x xs) (contains_tail x r.0 xs r.1) r.2)) r.1))
    (distinct_mapped_on f xs (λ y z h k e. one y z (contains_tail x y xs h) (contains_tail x z xs k) e) (distinct_tail x xs d))

-- what passes a test, each once still
pub distinct_filter : {A : Type 0} (test : A → Bool) (xs : List A) → AreDistinct xs → AreDistinct (filter test xs)
distinct_filter {A} test [] d = distinct_none
distinct_filter {A} test (x ∷ xs) d = at (test x) (distinct_filter test xs (distinct_tail x xs d))
  where
    at : (b : Bool) → AreDistinct (filter test xs) → AreDistinct (cond b (x ∷ filter test xs) (filter test xs))
    at true rest = distinct_cons x (filter test xs) (λ h. distinct_head x xs d (filter-sound test xs x h).0) rest
    at false rest = rest

-- no number stands twice
pub apart_from_once : (xs : List ℕ) → IsOnce xs → AreDistinct xs
apart_from_once [] once = distinct_none
apart_from_once (x ∷ xs) once = distinct_cons x xs (λ c. both_ways (is_in x xs) once.0 (in_from_contains xs x c)) (apart_from_once xs once.1)
