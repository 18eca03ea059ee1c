-- A printed number ends where a byte stands that is no digit and no minus.
use Rattle.std.proofs.Common.{◌≡◌, ◌⊎◌, inl, inr, ℕ, suc, ◌<◌, ◌≤◌, ◌^◌, ℤ, pos, negsuc, unsigned_abs, List, [], ◌∷◌, ◌++◌, length, refl, ap, subst, arith}
use Rattle.std.specs.Int.{IsInRange}
use Rattle.std.specs.Str.Parse.{AllDigits}
use Rattle.std.proofs.lemmas.Str.Parse.{digit_from_value}
use lib.Signed.{mag}
use Rattle.std.specs.Fmt.{decimal, signed_decimal}
use Rattle.std.proofs.lemmas.Fmt.{decimal_is_IsNumeral, signed_decimal_injective}

-- a byte of a printed number
abbrev pub IsOfNumber : ℕ → Type 0
IsOfNumber b = (b ≡ 45) ⊎ IsInRange 48 57 b

abbrev pub AllOfNumber : List ℕ → Type 0
AllOfNumber [] = Unit {0}
AllOfNumber (b ∷ bs) = IsOfNumber b × AllOfNumber bs

-- commas, slashes, letters, brackets and the sign + don't
pub not_of_number : (b : ℕ) → b < 45 ⊎ ((b ≡ 47) ⊎ (57 < b)) → ¬ (IsOfNumber b)
not_of_number b (inl l) (inl e) = omega arith
not_of_number b (inl l) (inr r) = omega (arith, r)
not_of_number b (inr (inl f)) (inl e) = omega arith
not_of_number b (inr (inl f)) (inr r) = omega (arith, r)
not_of_number b (inr (inr g)) (inl e) = omega arith
not_of_number b (inr (inr g)) (inr r) = omega (arith, r)

-- what stands behind a number doesn't belong to it
abbrev pub IsBehind : List ℕ → Type 0
IsBehind [] = Unit {0}
IsBehind (b ∷ bs) = ¬ (IsOfNumber b)

digits_only : (ds : List ℕ) → AllDigits 10 ds → AllOfNumber ds
digits_only [] h = tt
digits_only (d ∷ ds) h = (inr (digit_from_value d h.0), digits_only ds h.1)

within : (z : ℕ) → z ≤ 2 ^ 31 → z < 2 ^ 64
within z h = omega arith

pub of_number : (z : ℤ) → unsigned_abs z ≤ 2 ^ 31 → AllOfNumber (signed_decimal z)
of_number (pos n) h = digits_only (decimal n) (decimal_is_IsNumeral n (within n h)).0.1
of_number (negsuc n) h = (inl refl, digits_only (decimal (suc n)) (decimal_is_IsNumeral (suc n) (within (suc n) h)).0.1)

pub not_empty : (z : ℤ) → unsigned_abs z ≤ 2 ^ 31 → signed_decimal z ≡ [] → ⊥
not_empty (pos n) h e = let some = (decimal_is_IsNumeral n (within n h)).0.0 in omega (arith, ap length e)
not_empty (negsuc n) h e = absurd cc

-- two texts that begin with a number each
pub cut : (xs ys us vs : List ℕ) → AllOfNumber xs → AllOfNumber ys → IsBehind us → IsBehind vs → xs ++ us ≡ ys ++ vs → (xs ≡ ys) × (us ≡ vs)
cut [] [] us vs h k i j e = (refl, e)
cut [] (y ∷ ys) [] vs h k i j e = absurd cc
cut [] (y ∷ ys) (u ∷ us) vs h k i j e = absurd (i (subst IsOfNumber (let first : y ≡ u = cc in first) k.0))
cut (x ∷ xs) [] us [] h k i j e = absurd cc
cut (x ∷ xs) [] us (v ∷ vs) h k i j e = absurd (j (subst IsOfNumber (let first : x ≡ v = cc in first) h.0))
cut (x ∷ xs) (y ∷ ys) us vs h k i j e =
    let first : x ≡ y = cc in
    let rest : xs ++ us ≡ ys ++ vs = cc in
    let c = cut xs ys us vs h.1 k.1 i j rest in
    let both : x ∷ xs ≡ y ∷ ys = let same : xs ≡ ys = c.0 in cc in
    (both, c.1)

pub cut_numbers : (y z : ℤ) (us vs : List ℕ) → unsigned_abs y ≤ 2 ^ 31 → unsigned_abs z ≤ 2 ^ 31 → IsBehind us → IsBehind vs → signed_decimal y ++ us ≡ signed_decimal z ++ vs → (y ≡ z) × (us ≡ vs)
cut_numbers y z us vs h k i j e =
    let c = cut (signed_decimal y) (signed_decimal z) us vs (of_number y h) (of_number z k) i j e in
    (signed_decimal_injective y z (wide y h) (wide z k) c.0, c.1)
  where
    wide : (z : ℤ) → unsigned_abs z ≤ 2 ^ 31 → mag z < 2 ^ 63
    wide (pos n) h = omega arith
    wide (negsuc n) h = omega arith
