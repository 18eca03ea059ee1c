-- The slots that have another candidate, as they are computed of the touches.
use Rattle.std.proofs.Common.{◌≡◌, ◌≢◌, ◌⊎◌, inl, inr, refl, sym, ap, ◌∙◌, subst, arith, List, [], ◌∷◌, ℕ, zero, suc, ◌+◌, ◌<◌, ◌≤◌, Bool, true, false, length, filter, Some, None, Option}
use Rattle.std.specs.Prelude.{◌&&◌, not, nat_eq, nat_lt, Contains, slice_get, slice_index_or, if◌then◌else◌}
use Rattle.std.specs.List.{list_any, range_with_len}
use Rattle.std.specs.Option.{option_eq}
use Rattle.std.proofs.lemmas.Bool.{eq-eqb, eqb-true, and_parts, cases_eq}
use Rattle.std.proofs.lemmas.Bool.Decides.{nat_tests}
use Rattle.std.proofs.lemmas.List.Folds.{Any-from_list_any, list_any-from_Any}
use Rattle.std.proofs.lemmas.Option.{slice_get-get_or, get_or_from_slice_get, slice_get_within}
use Rattle.kin_algebra.proofs.Members.{get_from_contains, contains_from_get}
use Rattle.kin_algebra.proofs.Tests.{same_test}
use Rattle.kin_motion.specs.Numbers.{is_in, IsChain}
use Rattle.kin_motion.proofs.ListChains.{same_chain}
use Rattle.kin_motion.proofs.Members.{in_from_contains, contains_from_in}
use Rattle.kin_motion.proofs.SetLaws.{contains_none, contains_head, contains_tail, contains_cases, filter-sound, filter-complete}
use Rattle.kin_wedge.specs.declared.touch.Touch.{Touch}
use Rattle.kin_wedge.specs.Passages.{HasNoted, changed_slots, has_changed}

-- ---- the numbers from a on
range_from : (a n s : ℕ) → Contains (range_with_len a n) s → (a ≤ s) × (s < a + n)
range_from a zero s h = absurd (contains_none s h)
range_from a (suc n) s h = at (contains_cases a s (range_with_len (a + 1) n) h) (range_from (a + 1) n s)
  where
    at : (a ≡ s) ⊎ Contains (range_with_len (a + 1) n) s → (Contains (range_with_len (a + 1) n) s → (a + 1 ≤ s) × (s < a + 1 + n)) → (a ≤ s) × (s < a + suc n)
    at (inl e) more = (omega (arith, e), omega (arith, e))
    at (inr k) more = let low = (more k).0 in let high = (more k).1 in (omega (arith, low), omega (arith, high))

range_to : (a n s : ℕ) → a ≤ s → s < a + n → Contains (range_with_len a n) s
range_to a zero s low high = absurd (omega (arith, low, high))
range_to a (suc n) s low high = at (cases_eq a s) (range_to (a + 1) n s)
  where
    at : (a ≡ s) ⊎ (a ≢ s) → (a + 1 ≤ s → s < a + 1 + n → Contains (range_with_len (a + 1) n) s) → Contains (a ∷ range_with_len (a + 1) n) s
    at (inl e) more = subst (λ (x : ℕ). Contains (a ∷ range_with_len (a + 1) n) x) e (contains_head a (range_with_len (a + 1) n))
    at (inr o) more = contains_tail a s (range_with_len (a + 1) n) (more (omega (arith, low, o)) (omega (arith, high)))

rising_from : (p : ℕ → Bool) (a n : ℕ) → IsChain nat_lt (filter p (range_with_len a n))
rising_from p a zero = tt
rising_from p a (suc n) = at (p a) (rising_from p (a + 1) n)
  where
    rest : List ℕ
    rest = filter p (range_with_len (a + 1) n)

    above : (y : ℕ) → Contains rest y → nat_lt a y ≡ true
    above y h = let low = (range_from (a + 1) n y (filter-sound p (range_with_len (a + 1) n) y h).0).0 in let l : a < y = omega (arith, low) in grind (arith, nat_tests, l)

    in_front : (ys : List ℕ) → IsChain nat_lt ys → ((y : ℕ) → Contains ys y → nat_lt a y ≡ true) → IsChain nat_lt (a ∷ ys)
    in_front [] chain first = tt
    in_front (y ∷ ys) chain first = (first y (contains_head y ys), chain)

    at : (t : Bool) → IsChain nat_lt rest → IsChain nat_lt (if t then a ∷ rest else rest)
    at false h = h
    at true h = in_front rest h above

-- ---- whether a slot has another candidate
same_option : (a b : Option ℕ) → option_eq nat_eq a b ≡ true → a ≡ b
same_option None None e = refl
same_option None (Some y) e = absurd cc
same_option (Some x) None e = absurd cc
same_option (Some x) (Some y) e = ap (λ (n : ℕ). Some n) (eqb-true x y e)

option_itself : (a : Option ℕ) → option_eq nat_eq a a ≡ true
option_itself None = refl
option_itself (Some x) = eq-eqb x x refl

module _ (candidates : List (Option ℕ)) (t : Touch) where
  differs : has_changed candidates t ≡ true → slice_get candidates t.slot ≢ Some t.old
  differs h e =
      let same : slice_index_or candidates t.slot None ≡ t.old = get_or_from_slice_get candidates t.slot t.old None e in
      let clash : false ≡ true = ap not (sym (ap (λ (a : Option ℕ). option_eq nat_eq a t.old) same ∙ option_itself t.old)) ∙ h in
      absurd cc

  changes : t.slot < length candidates → slice_get candidates t.slot ≢ Some t.old → has_changed candidates t ≡ true
  changes within n = at (option_eq nat_eq (slice_index_or candidates t.slot None) t.old) refl
    where
      at : (b : Bool) → option_eq nat_eq (slice_index_or candidates t.slot None) t.old ≡ b → not b ≡ true
      at true e = absurd (n (slice_get-get_or candidates t.slot None within ∙ ap (λ (a : Option ℕ). Some a) (same_option (slice_index_or candidates t.slot None) t.old e)))
      at false e = refl

-- ---- the slots of all touches
module _ (candidates : List (Option ℕ)) (ts : List Touch) where
  is_of : ℕ → Touch → Bool
  is_of slot t = nat_eq t.slot slot && has_changed candidates t

  pub changed_rising : IsChain nat_lt (changed_slots candidates ts)
  unfolding is_of
  changed_rising = rising_from (λ slot. list_any (is_of slot) ts) 0 (length candidates)

  pub changed_noted : ((t : Touch) → Contains ts t → t.slot < length candidates) → HasNoted candidates ts (changed_slots candidates ts)
  unfolding is_of
  changed_noted within = record { all = all; only = only }
    where
      all : (t : Touch) → Contains ts t → slice_get candidates t.slot ≢ Some t.old → is_in t.slot (changed_slots candidates ts) ≡ true
      all t h n =
          let k = get_from_contains ts t h in
          let l = within t h in
          let is : is_of t.slot t ≡ true = ap (λ (b : Bool). b && has_changed candidates t) (eq-eqb t.slot t.slot refl) ∙ changes candidates t l n in
          in_from_contains (changed_slots candidates ts) t.slot
          (filter-complete (λ slot. list_any (is_of slot) ts) (range_with_len 0 (length candidates)) t.slot (range_to 0 (length candidates) t.slot (omega arith) (omega (arith, l)))
          (list_any-from_Any (is_of t.slot) ts (k.0, t, slice_get_within ts k.0 t k.1, get_or_from_slice_get ts k.0 t t k.1, is)))

      only : (s : ℕ) → is_in s (changed_slots candidates ts) ≡ true → (t : Touch) × Contains ts t × (t.slot ≡ s) × (slice_get candidates t.slot ≢ Some t.old)
      only s h =
          let c = filter-sound (λ slot. list_any (is_of slot) ts) (range_with_len 0 (length candidates)) s (contains_from_in (changed_slots candidates ts) s h) in
          let a = Any-from_list_any (is_of s) ts c.1 in
          let both = and_parts (nat_eq a.1.slot s) (has_changed candidates a.1) a.4 in
          (a.1, contains_from_get ts a.0 a.1 (slice_get-get_or ts a.0 a.1 a.2 ∙ ap (λ (x : Touch). Some x) a.3), eqb-true a.1.slot s both.0, differs candidates a.1 both.1)

  -- a rising list of the slots that are noted is this one
  pub listed : (slots : List ℕ) → ((t : Touch) → Contains ts t → t.slot < length candidates) → HasNoted candidates ts slots → IsChain nat_lt slots → slots ≡ changed_slots candidates ts
  listed slots within noted rising = same_chain nat_lt never through slots (changed_slots candidates ts) rising changed_rising (λ i. same_test (is_in i slots) (is_in i (changed_slots candidates ts)) (to i) (from i))
    where
      never : (i : ℕ) → nat_lt i i ≡ true → ⊥
      never i h = grind (arith, nat_tests, h)

      through : (i j k : ℕ) → nat_lt i j ≡ true → nat_lt j k ≡ true → nat_lt i k ≡ true
      through i j k a b = grind (arith, nat_tests, a, b)

      to : (i : ℕ) → is_in i slots ≡ true → is_in i (changed_slots candidates ts) ≡ true
      to i h = let k = noted.only i h in subst (λ (s : ℕ). is_in s (changed_slots candidates ts) ≡ true) k.2 ((changed_noted within).all k.0 k.1 k.3)

      from : (i : ℕ) → is_in i (changed_slots candidates ts) ≡ true → is_in i slots ≡ true
      from i h = let k = (changed_noted within).only i h in subst (λ (s : ℕ). is_in s slots ≡ true) k.2 (noted.all k.0 k.1 k.3)

nothing_left : (p : ℕ → Bool) (xs : List ℕ) → ((x : ℕ) → p x ≡ false) → filter p xs ≡ []
nothing_left p [] h = refl
nothing_left p (x ∷ xs) h = ap (λ (b : Bool). if b then x ∷ filter p xs else filter p xs) (h x) ∙ nothing_left p xs h

pub none_changed : (candidates : List (Option ℕ)) → changed_slots candidates [] ≡ []
none_changed candidates = nothing_left (λ slot. list_any (λ t. nat_eq t.slot slot && has_changed candidates t) []) (range_with_len 0 (length candidates)) (λ x. refl)
