-- Which of two numbers stands before the other, by their places.
use Rattle.std.proofs.Common.{◌≡◌, refl, sym, ap, ◌∙◌, arith, List, [], ◌∷◌, ℕ, zero, suc, ◌<◌, Bool, true, false, ◌||◌, ◌&&◌, nat_eq, Some, inl, inr, ◌⊎◌}
use Rattle.std.specs.Prelude.{slice_get}
use Rattle.std.proofs.lemmas.Bool.{cases_order, false_from_ne_true}
use Rattle.std.proofs.lemmas.Bool.Decides.{nat_tests}
use Rattle.std.proofs.lemmas.Option.{same_Some}
use Rattle.kin_motion.specs.Numbers.{is_in}
use Rattle.kin_motion.specs.Records.{stands_before}
use Rattle.kin_motion.specs.Sets.{AreDistinct}
use Rattle.kin_list.proofs.RowLaws.{is_in_from_get, get_from_is_in}

-- i stands at a place, and j at a later one
pub record ArePlaced (xs : List ℕ) (i j : ℕ) : Type 0 where
  pub first : ℕ
  pub second : ℕ
  pub at-first : slice_get xs first ≡ Some i
  pub at-second : slice_get xs second ≡ Some j
  pub order : first < second

pub places_from_before : (xs : List ℕ) (i j : ℕ) → stands_before xs i j ≡ true → ArePlaced xs i j
places_from_before [] i j h = absurd cc
places_from_before (x ∷ xs) i j h = at (nat_eq x i) (is_in j xs) (stands_before xs i j) refl refl refl h (places_from_before xs i j)
  where
    later : ArePlaced xs i j → ArePlaced (x ∷ xs) i j
    later r = record { first = suc r.first; second = suc r.second; at-first = r.at-first; at-second = r.at-second; order = let o = r.order in omega arith }

    at : (a b c : Bool) → nat_eq x i ≡ a → is_in j xs ≡ b → stands_before xs i j ≡ c → (a && b) || c ≡ true → (stands_before xs i j ≡ true → ArePlaced xs i j) → ArePlaced (x ∷ xs) i j
    at true true c e f g k rest =
        let r = get_from_is_in xs j f in
        let same : x ≡ i = grind (arith, nat_tests, e) in
        record { first = zero; second = suc r.0; at-first = ap (λ (n : ℕ). Some n) same; at-second = r.1; order = omega arith }
    at true false c e f g k rest = later (rest (g ∙ k))
    at false b c e f g k rest = later (rest (g ∙ k))

pub before_from_places : (xs : List ℕ) (p q i j : ℕ) → slice_get xs p ≡ Some i → slice_get xs q ≡ Some j → p < q → stands_before xs i j ≡ true
before_from_places [] p q i j a b h = absurd cc
before_from_places (x ∷ xs) zero zero i j a b h = absurd (omega arith)
before_from_places (x ∷ xs) zero (suc q) i j a b h =
    let same : x ≡ i = same_Some x i a in
    let there = is_in_from_get xs q j b in
    grind (arith, nat_tests, same, there)
before_from_places (x ∷ xs) (suc p) zero i j a b h = absurd (omega arith)
before_from_places (x ∷ xs) (suc p) (suc q) i j a b h = let r = before_from_places xs p q i j a b (omega arith) in at (nat_eq x i && is_in j xs) r
  where
    at : (t : Bool) → stands_before xs i j ≡ true → t || stands_before xs i j ≡ true
    at true r = refl
    at false r = r

module _ (xs : List ℕ) (apart : AreDistinct xs) where
  -- by the places that are known
  pub before_by_places : (p q i j : ℕ) → slice_get xs p ≡ Some i → slice_get xs q ≡ Some j → (q ≡ p) ⊎ (q < p) → stands_before xs i j ≡ false
  before_by_places p q i j a b h = false_from_ne_true _ (λ t. let r = places_from_before xs i j t in let e = apart p r.first i a r.at-first in let f = apart q r.second j b r.at-second in let o = r.order in late h e f o)
    where
      late : {x y : ℕ} → (q ≡ p) ⊎ (q < p) → p ≡ x → q ≡ y → x < y → ⊥
      late (inl g) e f o = omega (arith, g, e, f, o)
      late (inr g) e f o = omega (arith, g, e, f, o)

  pub before_through_list : (i j k : ℕ) → stands_before xs i j ≡ true → stands_before xs j k ≡ true → stands_before xs i k ≡ true
  before_through_list i j k a b =
      let r = places_from_before xs i j a in
      let t = places_from_before xs j k b in
      let e = apart r.second t.first j r.at-second t.at-first in
      let o = r.order in
      let u = t.order in
      before_from_places xs r.first t.second i k r.at-first t.at-second (omega (arith, e, o, u))

  -- of two different members one stands before the other
  pub one_before : (i j : ℕ) → is_in i xs ≡ true → is_in j xs ≡ true → (i ≡ j) ⊎ ((stands_before xs i j ≡ true) ⊎ (stands_before xs j i ≡ true))
  one_before i j a b = at (get_from_is_in xs i a) (get_from_is_in xs j b)
    where
      at : (p : ℕ) × (slice_get xs p ≡ Some i) → (q : ℕ) × (slice_get xs q ≡ Some j) → (i ≡ j) ⊎ ((stands_before xs i j ≡ true) ⊎ (stands_before xs j i ≡ true))
      at p q = by (cases_order p.0 q.0)
        where
          by : (p.0 ≡ q.0) ⊎ ((p.0 < q.0) ⊎ (q.0 < p.0)) → (i ≡ j) ⊎ ((stands_before xs i j ≡ true) ⊎ (stands_before xs j i ≡ true))
          by (inl e) = inl (same_Some i j (sym p.1 ∙ ap (slice_get xs) e ∙ q.1))
          by (inr (inl l)) = inr (inl (before_from_places xs p.0 q.0 i j p.1 q.1 l))
          by (inr (inr g)) = inr (inr (before_from_places xs q.0 p.0 j i q.1 p.1 g))

  pub never_before_self : (i : ℕ) → stands_before xs i i ≡ true → ⊥
  never_before_self i h = let r = places_from_before xs i i h in let e = apart r.first r.second i r.at-first r.at-second in let o = r.order in omega (arith, e, o)

-- who stands before or after another is a member
pub first_is_in : (xs : List ℕ) (i j : ℕ) → stands_before xs i j ≡ true → is_in i xs ≡ true
first_is_in xs i j h = let r = places_from_before xs i j h in is_in_from_get xs r.first i r.at-first

pub second_is_in : (xs : List ℕ) (i j : ℕ) → stands_before xs i j ≡ true → is_in j xs ≡ true
second_is_in xs i j h = let r = places_from_before xs i j h in is_in_from_get xs r.second j r.at-second
