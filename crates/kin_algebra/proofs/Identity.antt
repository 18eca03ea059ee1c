-- Identities of commutative rings, proved by computing: each side is multiplied out to a list of monomials.
use Rattle.std.proofs.Common.{◌≡◌, ℕ, zero, suc, ◌+◌, Bool, true, false, cond, ◌&&◌, List, [], ◌∷◌, refl, sym, ◌∙◌, ap, ap₂, arith}
use Rattle.std.specs.Prelude.{ℤ, pos, negsuc, ◌+ℤ◌, ◌*ℤ◌, nat_eq}
use Rattle.std.proofs.lemmas.Bool.Decides.{nat_tests}
use Rattle.std.proofs.lemmas.Bool.{and_parts}
use Rattle.kin_algebra.proofs.Rings.{CommutativeRing, plus_left, times_four, zero_plus, one_times, plus_times, zero_times, times_zero, minus_one_times, equal_by_difference}

infixl 6 ◌⊕◌ ◌⊖◌
infixl 7 ◌⊗◌
-- an expression over the variables 0, 1, 2, ..
pub data Expr : Type 0 where
  var : ℕ → Expr
  num : ℤ → Expr
  ◌⊕◌ : Expr → Expr → Expr
  ◌⊗◌ : Expr → Expr → Expr
  minus : Expr → Expr

abbrev pub ◌⊖◌ : Expr → Expr → Expr
a ⊖ b = a ⊕ minus b

-- ---- the monomials of an expression

-- a whole number times powers of the variables in turn
pub record Monomial : Type 0 where
  pub factor : ℤ
  pub powers : List ℕ

abbrev pub power_of_one : ℕ → List ℕ
power_of_one zero = 1 ∷ []
power_of_one (suc i) = 0 ∷ power_of_one i

abbrev pub add_powers : List ℕ → List ℕ → List ℕ
add_powers [] n = n
add_powers (e ∷ es) [] = e ∷ es
add_powers (e ∷ es) (f ∷ fs) = (e + f) ∷ add_powers es fs

abbrev pub same_powers : List ℕ → List ℕ → Bool
same_powers [] [] = true
same_powers [] (f ∷ fs) = false
same_powers (e ∷ es) [] = false
same_powers (e ∷ es) (f ∷ fs) = nat_eq e f && same_powers es fs

abbrev pub insert : Monomial → List Monomial → List Monomial
insert t [] = t ∷ []
insert t (u ∷ p) = cond (same_powers t.powers u.powers) (record { factor = t.factor +ℤ u.factor; powers = u.powers } ∷ p) (u ∷ insert t p)

abbrev pub add : List Monomial → List Monomial → List Monomial
add [] q = q
add (t ∷ p) q = insert t (add p q)

abbrev pub scale : Monomial → List Monomial → List Monomial
scale t [] = []
scale t (u ∷ p) = record { factor = t.factor *ℤ u.factor; powers = add_powers t.powers u.powers } ∷ scale t p

abbrev pub multiply : List Monomial → List Monomial → List Monomial
multiply [] q = []
multiply (t ∷ p) q = add (scale t q) (multiply p q)

abbrev pub minus_one : Monomial
minus_one = record { factor = negsuc 0; powers = [] }

abbrev pub monomials : Expr → List Monomial
monomials (var i) = record { factor = pos 1; powers = power_of_one i } ∷ []
monomials (num c) = record { factor = c; powers = [] } ∷ []
monomials (a ⊕ b) = add (monomials a) (monomials b)
monomials (a ⊗ b) = multiply (monomials a) (monomials b)
monomials (minus a) = scale minus_one (monomials a)

abbrev pub is_zero : ℤ → Bool
is_zero (pos zero) = true
is_zero (pos (suc n)) = false
is_zero (negsuc n) = false

abbrev pub all_zero : List Monomial → Bool
all_zero [] = true
all_zero (t ∷ p) = is_zero t.factor && all_zero p

-- both sides have the same monomials
abbrev pub agree : Expr → Expr → Bool
agree l r = all_zero (monomials (l ⊖ r))

-- ---- tests and what they say
same_powers-true : (m n : List ℕ) → same_powers m n ≡ true → m ≡ n
same_powers-true [] [] h = refl
same_powers-true [] (f ∷ fs) h = absurd cc
same_powers-true (e ∷ es) [] h = absurd cc
same_powers-true (e ∷ es) (f ∷ fs) h =
    let p = and_parts (nat_eq e f) (same_powers es fs) h in
    let q : e ≡ f = grind (arith, nat_tests, p.0) in
    let r : es ≡ fs = same_powers-true es fs p.1 in
    cc

is_zero-true : (c : ℤ) → is_zero c ≡ true → c ≡ pos 0
is_zero-true (pos zero) h = refl
is_zero-true (pos (suc n)) h = absurd cc
is_zero-true (negsuc n) h = absurd cc

-- ---- values
module _ {R : Type 0} (r : CommutativeRing R) where
  abbrev pub pick : List R → ℕ → R
  pick [] i = r.whole (pos 1)
  pick (x ∷ xs) zero = x
  pick (x ∷ xs) (suc i) = pick xs i

  abbrev pub eval : List R → Expr → R
  eval xs (var i) = pick xs i
  eval xs (num c) = r.whole c
  eval xs (a ⊕ b) = r.plus (eval xs a) (eval xs b)
  eval xs (a ⊗ b) = r.times (eval xs a) (eval xs b)
  eval xs (minus a) = r.negative (eval xs a)

  abbrev power : R → ℕ → R
  power x zero = r.whole (pos 1)
  power x (suc n) = r.times x (power x n)

  abbrev product_of_powers : List ℕ → List R → R
  product_of_powers [] xs = r.whole (pos 1)
  product_of_powers (e ∷ es) [] = r.whole (pos 1)
  product_of_powers (e ∷ es) (x ∷ xs) = r.times (power x e) (product_of_powers es xs)

  abbrev value : Monomial → List R → R
  value t xs = r.times (r.whole t.factor) (product_of_powers t.powers xs)

  abbrev value_of_sum : List Monomial → List R → R
  value_of_sum [] xs = r.whole (pos 0)
  value_of_sum (t ∷ p) xs = r.plus (value t xs) (value_of_sum p xs)

  -- ---- each step keeps the value
  power-add : (x : R) (e f : ℕ) → power x (e + f) ≡ r.times (power x e) (power x f)
  power-add x zero f = ap (power x) (zero_plus_nat f) ∙ sym (one_times r (power x f))
    where
      zero_plus_nat : (n : ℕ) → zero + n ≡ n
      zero_plus_nat n = omega arith
  power-add x (suc e) f = ap (power x) (suc_plus e f) ∙ ap (r.times x) (power-add x e f) ∙ sym (r.times_assoc x (power x e) (power x f))
    where
      suc_plus : (m n : ℕ) → suc m + n ≡ suc (m + n)
      suc_plus m n = omega arith

  powers-add : (m n : List ℕ) (xs : List R) → product_of_powers (add_powers m n) xs ≡ r.times (product_of_powers m xs) (product_of_powers n xs)
  powers-add [] n xs = sym (one_times r (product_of_powers n xs))
  powers-add (e ∷ es) [] xs = sym (r.times_one (product_of_powers (e ∷ es) xs))
  powers-add (e ∷ es) (f ∷ fs) [] = sym (one_times r (r.whole (pos 1)))
  powers-add (e ∷ es) (f ∷ fs) (x ∷ xs) =
      ap₂ r.times (power-add x e f) (powers-add es fs xs)
      ∙ times_four r (power x e) (power x f) (product_of_powers es xs) (product_of_powers fs xs)

  power_of_one-is : (i : ℕ) (xs : List R) → product_of_powers (power_of_one i) xs ≡ pick xs i
  power_of_one-is zero [] = refl
  power_of_one-is zero (x ∷ xs) = r.times_one (r.times x (r.whole (pos 1))) ∙ r.times_one x
  power_of_one-is (suc i) [] = refl
  power_of_one-is (suc i) (x ∷ xs) = one_times r (product_of_powers (power_of_one i) xs) ∙ power_of_one-is i xs

  merged : (c d : ℤ) (m p : R) → r.plus (r.times (r.whole (c +ℤ d)) m) p ≡ r.plus (r.times (r.whole c) m) (r.plus (r.times (r.whole d) m) p)
  merged c d m p =
      ap (λ y. r.plus (r.times y m) p) (r.whole_plus c d)
      ∙ ap (λ y. r.plus y p) (plus_times r (r.whole c) (r.whole d) m)
      ∙ r.plus_assoc (r.times (r.whole c) m) (r.times (r.whole d) m) p

  insert-is : (t : Monomial) (p : List Monomial) (xs : List R) → value_of_sum (insert t p) xs ≡ r.plus (value t xs) (value_of_sum p xs)
  insert-is t [] xs = refl
  insert-is t (u ∷ p) xs = cases (same_powers t.powers u.powers) (same_powers-true t.powers u.powers) (insert-is t p xs)
    where
      cases : (b : Bool) → (b ≡ true → t.powers ≡ u.powers) → value_of_sum (insert t p) xs ≡ r.plus (value t xs) (value_of_sum p xs)
          → value_of_sum (cond b (record { factor = t.factor +ℤ u.factor; powers = u.powers } ∷ p) (u ∷ insert t p)) xs ≡ r.plus (value t xs) (value_of_sum (u ∷ p) xs)
      cases true h rest =
          merged t.factor u.factor (product_of_powers u.powers xs) (value_of_sum p xs)
          ∙ ap (λ m. r.plus (r.times (r.whole t.factor) (product_of_powers m xs)) (value_of_sum (u ∷ p) xs)) (sym (h refl))
      cases false h rest = ap (r.plus (value u xs)) rest ∙ plus_left r (value u xs) (value t xs) (value_of_sum p xs)

  add-is : (p q : List Monomial) (xs : List R) → value_of_sum (add p q) xs ≡ r.plus (value_of_sum p xs) (value_of_sum q xs)
  add-is [] q xs = sym (zero_plus r (value_of_sum q xs))
  add-is (t ∷ p) q xs =
      insert-is t (add p q) xs
      ∙ ap (r.plus (value t xs)) (add-is p q xs)
      ∙ sym (r.plus_assoc (value t xs) (value_of_sum p xs) (value_of_sum q xs))

  scale-is : (t : Monomial) (p : List Monomial) (xs : List R) → value_of_sum (scale t p) xs ≡ r.times (value t xs) (value_of_sum p xs)
  scale-is t [] xs = sym (times_zero r (value t xs))
  scale-is t (u ∷ p) xs =
      ap₂ r.plus
      (ap₂ r.times (r.whole_times t.factor u.factor) (powers-add t.powers u.powers xs)
      ∙ times_four r (r.whole t.factor) (r.whole u.factor) (product_of_powers t.powers xs) (product_of_powers u.powers xs))
      (scale-is t p xs)
      ∙ sym (r.times_plus (value t xs) (value u xs) (value_of_sum p xs))

  multiply-is : (p q : List Monomial) (xs : List R) → value_of_sum (multiply p q) xs ≡ r.times (value_of_sum p xs) (value_of_sum q xs)
  multiply-is [] q xs = sym (zero_times r (value_of_sum q xs))
  multiply-is (t ∷ p) q xs =
      add-is (scale t q) (multiply p q) xs
      ∙ ap₂ r.plus (scale-is t q xs) (multiply-is p q xs)
      ∙ sym (plus_times r (value t xs) (value_of_sum p xs) (value_of_sum q xs))

  monomials-is : (xs : List R) (e : Expr) → value_of_sum (monomials e) xs ≡ eval xs e
  monomials-is xs (var i) = r.plus_zero (r.times (r.whole (pos 1)) (product_of_powers (power_of_one i) xs)) ∙ one_times r (product_of_powers (power_of_one i) xs) ∙ power_of_one-is i xs
  monomials-is xs (num c) = r.plus_zero (r.times (r.whole c) (r.whole (pos 1))) ∙ r.times_one (r.whole c)
  monomials-is xs (a ⊕ b) = add-is (monomials a) (monomials b) xs ∙ ap₂ r.plus (monomials-is xs a) (monomials-is xs b)
  monomials-is xs (a ⊗ b) = multiply-is (monomials a) (monomials b) xs ∙ ap₂ r.times (monomials-is xs a) (monomials-is xs b)
  monomials-is xs (minus a) =
      scale-is minus_one (monomials a) xs
      ∙ ap (λ y. r.times y (value_of_sum (monomials a) xs)) (r.times_one (r.whole (negsuc 0)))
      ∙ minus_one_times r (value_of_sum (monomials a) xs)
      ∙ ap r.negative (monomials-is xs a)

  nothing : (c : ℤ) (m v : R) → c ≡ pos 0 → v ≡ r.whole (pos 0) → r.plus (r.times (r.whole c) m) v ≡ r.whole (pos 0)
  nothing c m v e f = ap (λ y. r.plus (r.times (r.whole y) m) v) e ∙ ap (λ y. r.plus y v) (zero_times r m) ∙ zero_plus r v ∙ f

  all_zero-is : (p : List Monomial) (xs : List R) → all_zero p ≡ true → value_of_sum p xs ≡ r.whole (pos 0)
  all_zero-is [] xs h = refl
  all_zero-is (t ∷ p) xs h =
      let q = and_parts (is_zero t.factor) (all_zero p) h in
      nothing t.factor (product_of_powers t.powers xs) (value_of_sum p xs) (is_zero-true t.factor q.0) (all_zero-is p xs q.1)

  -- two expressions with the same monomials have one value
  pub identity : (xs : List R) (a b : Expr) → agree a b ≡ true → eval xs a ≡ eval xs b
  identity xs a b h = equal_by_difference r (eval xs a) (eval xs b) (sym (monomials-is xs (a ⊖ b)) ∙ all_zero-is (monomials (a ⊖ b)) xs h)
