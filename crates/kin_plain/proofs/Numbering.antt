-- What is made for each number below a bound.
use Rattle.std.proofs.Common.{◌≡◌, ◌<◌, ◌≤◌, sym, ap, ◌∙◌, arith, List, [], ◌∷◌, ◌++◌, ℕ, suc, ◌+◌, ◌-◌, map, append_assoc}
use Rattle.std.specs.Prelude.{flat_map}
use Rattle.std.proofs.lemmas.List.{append-nil, map-append}
use Rattle.kin_motion.specs.Numbers.{numbers_from}

-- the numbers from i on
pub numbers_more : (n i : ℕ) → i < n → numbers_from i (n - i) ≡ i ∷ numbers_from (i + 1) (n - (i + 1))
numbers_more n i low = let e : n - i ≡ suc (n - (i + 1)) = omega (arith, low) in ap (numbers_from i) e

pub numbers_none : (n i : ℕ) → n ≤ i → numbers_from i (n - i) ≡ []
numbers_none n i high = let e : n - i ≡ 0 = omega (arith, high) in ap (numbers_from i) e

module _ {A : Type 0} (f : ℕ → A) (n : ℕ) where
  -- one more item is made
  pub made_more : (i : ℕ) (xs ys all : List A) → i < n → ys ≡ xs ++ f i ∷ [] → xs ++ map f (numbers_from i (n - i)) ≡ all → ys ++ map f (numbers_from (i + 1) (n - (i + 1))) ≡ all
  made_more i xs ys all low e whole =
      ap (λ (l : List A). l ++ map f (numbers_from (i + 1) (n - (i + 1)))) e ∙ append_assoc xs (f i ∷ []) (map f (numbers_from (i + 1) (n - (i + 1))))
      ∙ ap (λ (l : List ℕ). xs ++ map f l) (sym (numbers_more n i low)) ∙ whole

  -- all items are made
  pub made_all : (i : ℕ) (xs all : List A) → n ≤ i → xs ++ map f (numbers_from i (n - i)) ≡ all → xs ≡ all
  made_all i xs all high whole = sym (append-nil xs) ∙ ap (λ (l : List ℕ). xs ++ map f l) (sym (numbers_none n i high)) ∙ whole

module _ {A B : Type 0} (m : A → B) (f : ℕ → List A) (n : ℕ) where
  -- the items of one more number are put
  pub put_more : (i : ℕ) (xs ys all : List B) → i < n → ys ≡ xs ++ map m (f i) → xs ++ map m (flat_map f (numbers_from i (n - i))) ≡ all
      → ys ++ map m (flat_map f (numbers_from (i + 1) (n - (i + 1)))) ≡ all
  put_more i xs ys all low e whole =
      let rest = flat_map f (numbers_from (i + 1) (n - (i + 1))) in
      ap (λ (l : List B). l ++ map m rest) e ∙ append_assoc xs (map m (f i)) (map m rest) ∙ ap (λ (l : List B). xs ++ l) (sym (map-append m (f i) rest))
      ∙ ap (λ (l : List ℕ). xs ++ map m (flat_map f l)) (sym (numbers_more n i low)) ∙ whole

  -- those of all numbers are put
  pub put_all : (i : ℕ) (xs all : List B) → n ≤ i → xs ++ map m (flat_map f (numbers_from i (n - i))) ≡ all → xs ≡ all
  put_all i xs all high whole = sym (append-nil xs) ∙ ap (λ (l : List ℕ). xs ++ map m (flat_map f l)) (sym (numbers_none n i high)) ∙ whole

module _ {A : Type 0} (f : ℕ → List A) (n : ℕ) where
  -- the items of one more number are joined
  pub joined_more : (i : ℕ) (xs ys all : List A) → i < n → ys ≡ xs ++ f i → xs ++ flat_map f (numbers_from i (n - i)) ≡ all → ys ++ flat_map f (numbers_from (i + 1) (n - (i + 1))) ≡ all
  joined_more i xs ys all low e whole =
      let rest = flat_map f (numbers_from (i + 1) (n - (i + 1))) in
      ap (λ (l : List A). l ++ rest) e ∙ append_assoc xs (f i) rest ∙ ap (λ (l : List ℕ). xs ++ flat_map f l) (sym (numbers_more n i low)) ∙ whole
