-- Different numbers below a bound are no more than the bound.
use Rattle.std.proofs.Common.{◌≡◌, ◌≢◌, refl, sym, ap, ◌∙◌, subst, arith, List, [], ◌∷◌, ℕ, zero, suc, ◌<◌, ◌≤◌, ◌⊎◌, length, Some, inl, inr}
use Rattle.std.specs.Prelude.{slice_get, remove}
use Rattle.std.proofs.lemmas.Bool.{cases_eq, cases_order}
use Rattle.std.proofs.lemmas.Option.{slice_get_within, same_Some}
use Rattle.std.proofs.lemmas.List.Edits.{length-remove}
use Rattle.kin_algebra.proofs.Places.{get-remove_below, get-remove_above}

abbrev pub AreDifferent : List ℕ → Type 0
AreDifferent xs = (p q n : ℕ) → slice_get xs p ≡ Some n → slice_get xs q ≡ Some n → p ≡ q

-- the number stands at a place, or at none
abbrev IsFound : List ℕ → ℕ → Type 0
IsFound xs n = ((p : ℕ) × (slice_get xs p ≡ Some n)) ⊎ ((p : ℕ) → slice_get xs p ≢ Some n)

found : (xs : List ℕ) (n : ℕ) → IsFound xs n
found [] n = inr (λ p e. absurd cc)
found (x ∷ xs) n = at (cases_eq x n) (found xs n)
  where
    at : (x ≡ n) ⊎ (x ≢ n) → IsFound xs n → IsFound (x ∷ xs) n
    at (inl e) rest = inl (zero, ap (λ (m : ℕ). Some m) e)
    at (inr d) (inl s) = inl (suc s.0, s.1)
    at (inr d) (inr none) = inr there
      where
        there : (p : ℕ) → slice_get (x ∷ xs) p ≢ Some n
        there zero e = d (same_Some x n e)
        there (suc p) e = none p e

-- where a number stood before one was taken out
pub record StoodAt {A : Type 0} (xs : List A) (p q : ℕ) (x : A) : Type 0 where
  pub place : ℕ
  pub at : slice_get xs place ≡ Some x
  pub moved : ((q < p) × (place ≡ q)) ⊎ ((p ≤ q) × (place ≡ suc q))

pub stood : {A : Type 0} (xs : List A) (p q : ℕ) (x : A) → slice_get (remove xs p) q ≡ Some x → StoodAt xs p q x
stood {A} xs p q x e = at (cases_order q p)
  where
    at : (q ≡ p) ⊎ ((q < p) ⊎ (p < q)) → StoodAt xs p q x
    at (inl s) = record { place = suc q; at = sym (get-remove_above p q xs (omega arith)) ∙ e; moved = inr (omega arith, refl) }
    at (inr (inl l)) = record { place = q; at = sym (get-remove_below p q xs l) ∙ e; moved = inl (l, refl) }
    at (inr (inr g)) = record { place = suc q; at = sym (get-remove_above p q xs (omega arith)) ∙ e; moved = inr (omega arith, refl) }

pub few_below : (n : ℕ) (xs : List ℕ) → AreDifferent xs → ((p m : ℕ) → slice_get xs p ≡ Some m → m < n) → length xs ≤ n
few_below zero [] d below = omega arith
few_below zero (x ∷ xs) d below = absurd (let h : x < 0 = below zero x refl in omega arith)
few_below (suc n) xs d below = at (found xs n) (few_below n)
  where
    at : IsFound xs n → ((ys : List ℕ) → AreDifferent ys → ((p m : ℕ) → slice_get ys p ≡ Some m → m < n) → length ys ≤ n) → length xs ≤ suc n
    at (inr none) fewer = let h = fewer xs d (λ p m e. let h = below p m e in let k : m ≢ n = λ s. none p (subst (λ (z : ℕ). slice_get xs p ≡ Some z) s e) in omega (arith, h, k)) in omega arith
    at (inl s) fewer =
        let l = length-remove xs s.0 (slice_get_within xs s.0 n s.1) in
        let h = fewer (remove xs s.0) different lower in
        omega arith
      where
        different : AreDifferent (remove xs s.0)
        different p q m e f = let a = stood xs s.0 p m e in let b = stood xs s.0 q m f in let same = d a.place b.place m a.at b.at in apart a.moved b.moved same
          where
            apart : {a b : ℕ} → ((p < s.0) × (a ≡ p)) ⊎ ((s.0 ≤ p) × (a ≡ suc p)) → ((q < s.0) × (b ≡ q)) ⊎ ((s.0 ≤ q) × (b ≡ suc q)) → a ≡ b → p ≡ q
            apart (inl x) (inl y) h = omega (arith, x.0, x.1, y.0, y.1, h)
            apart (inl x) (inr y) h = omega (arith, x.0, x.1, y.0, y.1, h)
            apart (inr x) (inl y) h = omega (arith, x.0, x.1, y.0, y.1, h)
            apart (inr x) (inr y) h = omega (arith, x.0, x.1, y.0, y.1, h)

        lower : (p m : ℕ) → slice_get (remove xs s.0) p ≡ Some m → m < n
        lower p m e =
            let a = stood xs s.0 p m e in
            let h = below a.place m a.at in
            let k : m ≢ n = λ same. let g = d a.place s.0 n (subst (λ (z : ℕ). slice_get xs a.place ≡ Some z) same a.at) s.1 in here a.moved g in
            omega (arith, h, k)
          where
            here : {a : ℕ} → ((p < s.0) × (a ≡ p)) ⊎ ((s.0 ≤ p) × (a ≡ suc p)) → a ≡ s.0 → ⊥
            here (inl x) g = omega (arith, x.0, x.1, g)
            here (inr x) g = omega (arith, x.0, x.1, g)
