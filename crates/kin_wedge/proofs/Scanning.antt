-- A scan of an order that begins behind the apex.
use Rattle.std.proofs.Common.{◌≡◌, ◌≢◌, sym, ap, ◌∙◌, arith, List, ℕ, ◌+◌, ◌-◌, ◌<◌, ◌≤◌, Bool, true, false, cond, length, Some, inl, inr, ◌⊎◌, nat_lt}
use Rattle.std.specs.Prelude.{slice_get}
use Rattle.std.proofs.lemmas.Bool.{cases_order, false_from_ne_true}
use Rattle.std.proofs.lemmas.Bool.Decides.{nat_tests}
use Rattle.std.proofs.lemmas.Option.{same_Some}
use Rattle.kin_motion.specs.Numbers.{is_in}
use Rattle.kin_motion.specs.Records.{stands_before}
use Rattle.kin_motion.specs.Sets.{AreDistinct}
use Rattle.kin_wedge.specs.Scans.{IsAhead, step_to, steps_in}
use Rattle.kin_wedge.proofs.Places.{before_from_places, before_by_places, places_from_before, first_is_in, second_is_in}

-- the order of two numbers is that of their places
pub compared : (xs : List ℕ) → AreDistinct xs → (p q i j : ℕ) → slice_get xs p ≡ Some i → slice_get xs q ≡ Some j → nat_lt p q ≡ stands_before xs i j
compared xs apart p q i j a b = at (cases_order p q)
  where
    at : (p ≡ q) ⊎ ((p < q) ⊎ (q < p)) → nat_lt p q ≡ stands_before xs i j
    at (inl e) = let f : nat_lt p q ≡ false = grind (arith, nat_tests, e) in f ∙ sym (before_by_places xs apart p q i j a b (inl (sym e)))
    at (inr (inl l)) = let t : nat_lt p q ≡ true = grind (arith, nat_tests, l) in t ∙ sym (before_from_places xs p q i j a b l)
    at (inr (inr g)) = let f : nat_lt p q ≡ false = grind (arith, nat_tests, g) in f ∙ sym (before_by_places xs apart p q i j a b (inr g))

-- who is not in the list stands before none, and behind none
pub absent_first : (xs : List ℕ) (i j : ℕ) → is_in i xs ≡ false → false ≡ stands_before xs i j
absent_first xs i j out = sym (false_from_ne_true _ (λ t. let m = first_is_in xs i j t in let c : true ≡ false = sym m ∙ out in cc))

pub absent_second : (xs : List ℕ) (i j : ℕ) → is_in j xs ≡ false → false ≡ stands_before xs i j
absent_second xs i j out = sym (false_from_ne_true _ (λ t. let m = second_is_in xs i j t in let c : true ≡ false = sym m ∙ out in cc))

pub starts : (xs : List ℕ) → AreDistinct xs → (e : Bool) (place t apex q : ℕ) → slice_get xs place ≡ Some apex → slice_get xs t ≡ Some q → cond e (stands_before xs q apex) (stands_before xs apex q) ≡ true → IsAhead e place 0 t
starts xs apart true place t apex q a b h = let r = places_from_before xs q apex h in let e = apart t r.first q b r.at-first in let f = apart place r.second apex a r.at-second in let o = r.order in omega (arith, e, f, o)
starts xs apart false place t apex q a b h = let r = places_from_before xs apex q h in let e = apart t r.second q b r.at-second in let f = apart place r.first apex a r.at-first in let o = r.order in omega (arith, e, f, o)

-- who is not at the place that is looked at is one step farther
pub goes_on : (e : Bool) (place k t : ℕ) → IsAhead e place k t → t ≢ step_to e place k → IsAhead e place (k + 1) t
goes_on true place k t h n = omega (arith, h, n)
goes_on false place k t h n = omega (arith, h, n)

pub ends : (e : Bool) (place t len k : ℕ) → t < len → place < len → steps_in e place len ≤ k → IsAhead e place k t → ⊥
ends true place t len k a b l h = omega (arith, l, h)
ends false place t len k a b l h = omega (arith, l, h, a, b)

-- who is behind the apex has a place
pub behind_place : (xs : List ℕ) (e : Bool) (apex q : ℕ) → cond e (stands_before xs q apex) (stands_before xs apex q) ≡ true → (t : ℕ) × (slice_get xs t ≡ Some q)
behind_place xs true apex q h = let r = places_from_before xs q apex h in (r.first, r.at-first)
behind_place xs false apex q h = let r = places_from_before xs apex q h in (r.second, r.at-second)

-- and the apex is in the list
pub apex_there : (xs : List ℕ) (e : Bool) (apex q : ℕ) → cond e (stands_before xs q apex) (stands_before xs apex q) ≡ true → is_in apex xs ≡ true
apex_there xs true apex q h = second_is_in xs q apex h
apex_there xs false apex q h = first_is_in xs apex q h

pub within : (e : Bool) (place k len : ℕ) → place < len → k < steps_in e place len → step_to e place k < len
within true place k len a h = omega (arith, a, h)
within false place k len a h = omega (arith, a, h)

-- the first that is found stands before all that are ahead
pub found_first : (xs : List ℕ) (e : Bool) (place k t hit q : ℕ) → k < steps_in e place (length xs) → slice_get xs (step_to e place k) ≡ Some hit → slice_get xs t ≡ Some q → IsAhead e place k t → (q ≡ hit) ⊎ (cond e (stands_before xs q hit) (stands_before xs hit q) ≡ true)
found_first xs true place k t hit q l a b h = at (cases_order t (place - 1 - k))
  where
    at : (t ≡ place - 1 - k) ⊎ ((t < place - 1 - k) ⊎ (place - 1 - k < t)) → (q ≡ hit) ⊎ (stands_before xs q hit ≡ true)
    at (inl s) = inl (same_Some q hit (sym b ∙ ap (slice_get xs) s ∙ a))
    at (inr (inl s)) = inr (before_from_places xs t (place - 1 - k) q hit b a s)
    at (inr (inr s)) = absurd (omega (arith, h, s))
found_first xs false place k t hit q l a b h = at (cases_order t (place + 1 + k))
  where
    at : (t ≡ place + 1 + k) ⊎ ((t < place + 1 + k) ⊎ (place + 1 + k < t)) → (q ≡ hit) ⊎ (stands_before xs hit q ≡ true)
    at (inl s) = inl (same_Some q hit (sym b ∙ ap (slice_get xs) s ∙ a))
    at (inr (inl s)) = absurd (omega (arith, h, s))
    at (inr (inr s)) = inr (before_from_places xs (place + 1 + k) t hit q a b s)
