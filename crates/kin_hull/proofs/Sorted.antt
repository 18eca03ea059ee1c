-- Lists of numbers in which a relation holds of each and each later one.
use Rattle.std.proofs.Common.{◌≡◌, ◌⊎◌, inl, inr, sym, ◌∙◌, subst, arith, List, [], ◌∷◌, ◌++◌, ℕ, zero, suc, ◌<◌, Bool, true, false, cond, filter, reverse, Some}
use Rattle.std.specs.Prelude.{slice_get}
use Rattle.std.proofs.lemmas.Bool.{and_parts, false_from_ne_true}
use Rattle.std.proofs.lemmas.List.{reverse-append}
use Rattle.std.proofs.lemmas.Option.{same_Some}
use Rattle.kin_algebra.proofs.Members.{contains_from_get}
use Rattle.kin_motion.specs.Numbers.{is_in, IsIn, IsOnce, IsChain}
use Rattle.kin_motion.proofs.AgreementLaws.{kept-members}
use Rattle.kin_motion.proofs.ListChains.{chain_tail, chain_first}
use Rattle.kin_motion.proofs.Members.{in_head, in_tail, in_cases, in_either, in_reverse, in_from_contains, contains_from_in}

-- R holds of each and each later one
pub Sorted : (ℕ → ℕ → Type 0) → List ℕ → Type 0
Sorted R [] = Unit {0}
Sorted R (x ∷ xs) = ((y : ℕ) → IsIn y xs → R x y) × Sorted R xs

-- a chain of an order that goes through is sorted by it
pub chain_sorted : (lt : ℕ → ℕ → Bool) → ((x y z : ℕ) → lt x y ≡ true → lt y z ≡ true → lt x z ≡ true) → (xs : List ℕ) → IsChain lt xs → Sorted (λ x y. lt x y ≡ true) xs
unfolding Sorted
chain_sorted lt through [] c = tt
chain_sorted lt through (x ∷ xs) c = (λ y h. chain_first lt through x xs c y (contains_from_in xs y h), chain_sorted lt through xs (chain_tail lt x xs c))

module _ (R : ℕ → ℕ → Type 0) where
  pub sorted_at : (xs : List ℕ) (i j p q : ℕ) → Sorted R xs → i < j → slice_get xs i ≡ Some p → slice_get xs j ≡ Some q → R p q
  unfolding Sorted
  sorted_at [] i j p q s h e f = absurd cc
  sorted_at (x ∷ xs) i zero p q s h e f = absurd (omega (arith, h))
  sorted_at (x ∷ xs) zero (suc j) p q s h e f = subst (λ n. R n q) (same_Some x p e) (s.0 q (in_from_contains xs q (contains_from_get xs j q f)))
  sorted_at (x ∷ xs) (suc i) (suc j) p q s h e f = sorted_at xs i j p q s.1 (omega (arith, h)) e f

  pub sorted_join : (xs ys : List ℕ) → Sorted R xs → Sorted R ys → ((x y : ℕ) → IsIn x xs → IsIn y ys → R x y) → Sorted R (xs ++ ys)
  unfolding Sorted
  sorted_join [] ys a b f = b
  sorted_join (x ∷ xs) ys a b f = (λ y h. at y (in_either y xs ys h), sorted_join xs ys a.1 b (λ z y i. f z y (in_tail z x xs i)))
    where
      at : (y : ℕ) → IsIn y xs ⊎ IsIn y ys → R x y
      at y (inl k) = a.0 y k
      at y (inr k) = f x y (in_head x xs) k

  pub sorted_kept : (test : ℕ → Bool) (xs : List ℕ) → Sorted R xs → Sorted R (filter test xs)
  unfolding Sorted
  sorted_kept test [] s = s
  sorted_kept test (x ∷ xs) s = at (test x) (sorted_kept test xs s.1)
    where
      at : (b : Bool) → Sorted R (filter test xs) → Sorted R (cond b (x ∷ filter test xs) (filter test xs))
      at true rest = (λ y h. s.0 y (and_parts (is_in y xs) (test y) (sym (kept-members test xs y) ∙ h)).0, rest)
      at false rest = rest

  pub sorted_with : (S : ℕ → ℕ → Type 0) (xs : List ℕ) → ((x y : ℕ) → IsIn x xs → IsIn y xs → R x y → S x y) → Sorted R xs → Sorted S xs
  unfolding Sorted
  sorted_with S [] f s = tt
  sorted_with S (x ∷ xs) f s = (λ y h. f x y (in_head x xs) (in_tail y x xs h) (s.0 y h), sorted_with S xs (λ y z h k. f y z (in_tail y x xs h) (in_tail z x xs k)) s.1)

  -- where none is related to itself, each is there once
  pub sorted_once : (xs : List ℕ) → ((x : ℕ) → R x x → ⊥) → Sorted R xs → IsOnce xs
  unfolding Sorted
  sorted_once [] n s = tt
  sorted_once (x ∷ xs) n s = (false_from_ne_true (is_in x xs) (λ h. n x (s.0 x h)), sorted_once xs n s.1)

-- the other way round
pub sorted_back : (R : ℕ → ℕ → Type 0) (xs : List ℕ) → Sorted R xs → Sorted (λ x y. R y x) (reverse xs)
unfolding Sorted
sorted_back R [] s = tt
sorted_back R (x ∷ xs) s =
    subst (Sorted (λ y z. R z y)) (sym (reverse-append (x ∷ []) xs))
    (sorted_join (λ y z. R z y) (reverse xs) (x ∷ []) (sorted_back R xs s.1) (λ y h. absurd cc, tt) (λ y z h k. at y z (in_reverse y xs h) (in_cases z x [] k)))
  where
    at : (y z : ℕ) → IsIn y xs → (z ≡ x) ⊎ IsIn z [] → R z y
    at y z h (inl e) = subst (λ n. R n y) (sym e) (s.0 y h)
    at y z h (inr k) = absurd cc
