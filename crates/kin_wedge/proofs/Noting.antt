-- The slots that have another candidate are noted one after another, sorted, and left once each.
use Rattle.std.proofs.Common.{◌≡◌, ◌≢◌, refl, sym, ap, ◌∙◌, subst, arith, List, [], ◌∷◌, ◌++◌, nat_eq, nat_lt, nat_cmp, eqb, ℕ, ◌+◌, ◌<◌, ◌≤◌, true, false, length, get_or, Some, Option, inl, inr, ◌⊎◌}
use Rattle.std.specs.Prelude.{slice_get, Contains}
use Rattle.std.proofs.lemmas.Bool.{cases_eq, or_right, or_left, or_cases, eq-eqb, eqb-true}
use Rattle.std.proofs.lemmas.Option.{slice_get-get_or}
use Rattle.std.specs.List.{dedup}
use Rattle.std.specs.List.Sorted.{IsPermutation, IsSorted, IsStrictlyIncreasing}
use Rattle.std.proofs.lemmas.Bool.Decides.{nat_tests}
use Rattle.std.proofs.lemmas.List.Elements.{Contains-get_or}
use Rattle.std.proofs.lemmas.List.Kept.{Contains-dedup_nat, Contains-from_dedup}
use Rattle.std.proofs.lemmas.List.Sorted.{Contains-permutation, IsPermutation-sym}
use Rattle.std.proofs.lemmas.Map.Keys.{IsStrictlyIncreasing-dedup}
use Rattle.kin_motion.specs.Numbers.{is_in, IsChain}
use Rattle.kin_list.proofs.OrderingLaws.{chain_from_neighbours}
use Rattle.kin_list.proofs.RowLaws.{get_from_is_in}
use Rattle.std.proofs.lemmas.Option.{slice_get_within, get_or_from_slice_get}
use Rattle.kin_algebra.proofs.Members.{get_from_contains, contains_from_get}
use Rattle.kin_motion.proofs.Members.{is_in-push, in_from_contains}
use Rattle.kin_wedge.specs.declared.touch.Touch.{Touch}
use Rattle.kin_wedge.specs.Passages.{HasNoted}

chain_from_increasing : (xs : List ℕ) → IsStrictlyIncreasing xs → IsChain nat_lt xs
chain_from_increasing xs h = chain_from_neighbours nat_lt xs (λ p i j e f.
    let w = slice_get_within xs (p + 1) j f in
    let r : get_or xs p 0 < get_or xs (p + 1) 0 = h p w in
    let a : get_or xs p 0 ≡ i = get_or_from_slice_get xs p i 0 e in
    let b : get_or xs (p + 1) 0 ≡ j = get_or_from_slice_get xs (p + 1) j 0 f in
    let l : i < j = omega (arith, r, a, b) in
    grind (arith, nat_tests, l))

pub rising_short : (xs : List ℕ) → length xs < 2 → IsChain nat_lt xs
rising_short [] short = tt
rising_short (x ∷ []) short = tt
rising_short (x ∷ y ∷ ys) short = absurd (omega (arith, short))

-- one slot more
pub still_noted : (slots next : List ℕ) (x s : ℕ) → next ≡ slots ++ x ∷ [] → is_in s slots ≡ true → is_in s next ≡ true
still_noted slots next x s e h = ap (is_in s) e ∙ is_in-push s x slots ∙ or_right (nat_eq s x) (is_in s slots) h

pub last_noted : (slots next : List ℕ) (x : ℕ) → next ≡ slots ++ x ∷ [] → is_in x next ≡ true
last_noted slots next x e = ap (is_in x) e ∙ is_in-push x x slots ∙ or_left (nat_eq x x) (is_in x slots) (eq-eqb x x refl)

pub noted_or_last : (slots next : List ℕ) (x s : ℕ) (P : Type 0) → next ≡ slots ++ x ∷ [] → P → is_in s next ≡ true → (is_in s slots ≡ true) ⊎ ((s ≡ x) × P)
noted_or_last slots next x s P e p h = at (or_cases (nat_eq s x) (is_in s slots) (sym (is_in-push s x slots) ∙ ap (is_in s) (sym e) ∙ h))
  where
    at : (nat_eq s x ≡ true) ⊎ (is_in s slots ≡ true) → (is_in s slots ≡ true) ⊎ ((s ≡ x) × P)
    at (inl f) = inr (eqb-true s x f, p)
    at (inr f) = inl f

-- the slots of the first i touches that have another candidate
pub record AreNoted (candidates : List (Option ℕ)) (ts : List Touch) (slots : List ℕ) (i : ℕ) : Type 0 where
  pub all : (k : ℕ) (d : Touch) → k < i → k < length ts → slice_get candidates (get_or ts k d).slot ≢ Some (get_or ts k d).old → is_in (get_or ts k d).slot slots ≡ true
  pub only : (s : ℕ) → is_in s slots ≡ true → (t : Touch) × Contains ts t × (t.slot ≡ s) × (slice_get candidates t.slot ≢ Some t.old)

pub noted_none : (candidates : List (Option ℕ)) (ts : List Touch) (slots : List ℕ) → slots ≡ [] → AreNoted candidates ts slots 0
noted_none candidates ts slots e = record {
  all = λ k d h. absurd (omega (arith, h));
  only = λ s h. absurd (let c : false ≡ true = sym (ap (is_in s) e) ∙ h in cc);
}

pub noted_all : (candidates : List (Option ℕ)) (ts : List Touch) (slots : List ℕ) (i : ℕ) → length ts ≤ i → AreNoted candidates ts slots i → HasNoted candidates ts slots
noted_all candidates ts slots i l a = record {
  all = λ t h d. let p = get_from_contains ts t h in let w = slice_get_within ts p.0 t p.1 in
      let e : get_or ts p.0 t ≡ t = get_or_from_slice_get ts p.0 t t p.1 in
      subst (λ (u : Touch). is_in u.slot slots ≡ true) e (a.all p.0 t (omega (arith, w, l)) w (subst (λ (u : Touch). slice_get candidates u.slot ≢ Some u.old) (sym e) d));
  only = a.only;
}

module _ (candidates : List (Option ℕ)) (ts : List Touch) (slots next : List ℕ) (i : ℕ) (d : Touch) where
  pub noted_more : i < length ts → AreNoted candidates ts slots i
      → ((s : ℕ) → is_in s slots ≡ true → is_in s next ≡ true)
      → (slice_get candidates (get_or ts i d).slot ≢ Some (get_or ts i d).old → is_in (get_or ts i d).slot next ≡ true)
      → ((s : ℕ) → is_in s next ≡ true → (is_in s slots ≡ true) ⊎ ((s ≡ (get_or ts i d).slot) × (slice_get candidates (get_or ts i d).slot ≢ Some (get_or ts i d).old)))
      → AreNoted candidates ts next (i + 1)
  noted_more l a keeps added news = record {
    all = λ k e h w n. at k e (cases_eq k i) h w n;
    only = λ s h. from s (news s h);
  }
    where
      at : (k : ℕ) (e : Touch) → (k ≡ i) ⊎ (k ≢ i) → k < i + 1 → k < length ts → slice_get candidates (get_or ts k e).slot ≢ Some (get_or ts k e).old → is_in (get_or ts k e).slot next ≡ true
      at k e (inl s) h w n =
          let g : get_or ts k e ≡ get_or ts i d = ap (λ (j : ℕ). get_or ts j e) s ∙ get_or_from_slice_get ts i (get_or ts i d) e (slice_get-get_or ts i d l) in
          subst (λ (u : Touch). is_in u.slot next ≡ true) (sym g) (added (subst (λ (u : Touch). slice_get candidates u.slot ≢ Some u.old) g n))
      at k e (inr o) h w n = keeps _ (a.all k e (omega (arith, h, o)) w n)

      from : (s : ℕ) → (is_in s slots ≡ true) ⊎ ((s ≡ (get_or ts i d).slot) × (slice_get candidates (get_or ts i d).slot ≢ Some (get_or ts i d).old)) → (t : Touch) × Contains ts t × (t.slot ≡ s) × (slice_get candidates t.slot ≢ Some t.old)
      from s (inl h) = a.only s h
      from s (inr h) = (get_or ts i d, Contains-get_or ts i d l, sym h.0, h.1)

-- what is noted, sorted, and left once each
module _ (xs ys zs : List ℕ) (sorted : IsPermutation xs ys) (once : zs ≡ dedup eqb ys) where
  there : (s : ℕ) → is_in s xs ≡ true → is_in s zs ≡ true
  there s h =
      let g = get_from_is_in xs s h in
      let c = Contains-dedup_nat ys s (Contains-permutation xs ys s sorted (contains_from_get xs g.0 s g.1)) in
      ap (is_in s) once ∙ in_from_contains (dedup eqb ys) s c

  back : (s : ℕ) → is_in s zs ≡ true → is_in s xs ≡ true
  back s h =
      let g = get_from_is_in (dedup eqb ys) s (sym (ap (is_in s) once) ∙ h) in
      in_from_contains xs s (Contains-permutation ys xs s (IsPermutation-sym xs ys sorted) (Contains-from_dedup eqb ys s (contains_from_get (dedup eqb ys) g.0 s g.1)))

  pub noted_once : (candidates : List (Option ℕ)) (ts : List Touch) → HasNoted candidates ts xs → HasNoted candidates ts zs
  noted_once candidates ts h = record { all = λ t c n. there t.slot (h.all t c n); only = λ s k. h.only s (back s k) }

  pub rising_once : IsSorted nat_cmp ys → IsChain nat_lt zs
  rising_once h = subst (IsChain nat_lt) (sym once) (chain_from_increasing (dedup eqb ys) (IsStrictlyIncreasing-dedup ys h))
