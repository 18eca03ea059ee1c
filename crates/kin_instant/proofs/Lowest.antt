-- Division by a greatest common divisor.
use Rattle.std.proofs.Common.{◌≡◌, ℕ, zero, suc, ◌*◌, ◌/◌, ◌%◌, ◌<◌, ℤ, pos, negsuc, ◌+ℤ◌, ◌-ℤ◌, ◌*ℤ◌, unsigned_abs, sym, refl, ap, ◌∙◌, subst, arith, [], ◌∷◌}
use Rattle.std.specs.Prelude.{◌<ℤ◌}
use Rattle.std.specs.Int.{IsGcd, ◌∣◌}
use Rattle.std.proofs.lemmas.Int.{ints, unsigned_abs-mul}
use Rattle.std.proofs.lemmas.Nat.Gcd.{mod-eq-zero_of_dvd}
use Rattle.std.proofs.Math.Nat.{mul_comm, mul-one, one-dvd, mul-dvd-mul_left, dvd_of_mul-dvd-mul_left}
use lib.IntN.{neg_ℤ}
use Rattle.kin_algebra.proofs.Magnitudes.{pos-some}
use Rattle.kin_algebra.specs.declared.sign.Sign.TheVariants.{Plus}
use Rattle.kin_algebra.specs.Signs.{sign_of}
use Rattle.kin_algebra.proofs.Ring.{by_ring, quotes}
use Rattle.kin_algebra.proofs.Signs.{same_from_product}
use Rattle.kin_algebra.proofs.IntegerSigns.{sign_in, sign_out, sign_of-times}
use Rattle.kin_num.specs.Canonical.{IsLowest}

-- where x = x' * g and y = y' * g, and g is the greatest common divisor, x' and y' have none but 1
pub lowest_after : (x y x' y' g : ℕ) → 0 < g → IsGcd x y g → x ≡ x' * g → y ≡ y' * g → IsGcd x' y' 1
lowest_after x y x' y' g h i p q = (one-dvd x', one-dvd y', λ k s t. dvd_of_mul-dvd-mul_left k h (subst (λ z. g * k ∣ z) (sym (mul-one g)) (i.2 (g * k) (subst (λ z. g * k ∣ z) (sym (p ∙ mul_comm x' g)) (mul-dvd-mul_left k g s)) (subst (λ z. g * k ∣ z) (sym (q ∙ mul_comm y' g)) (mul-dvd-mul_left k g t)))))

-- a division that leaves no remainder
multiple_of : (x g : ℤ) → unsigned_abs g ∣ unsigned_abs x → (k : ℕ) → unsigned_abs x ≡ unsigned_abs g * k → pos 0 <ℤ g → (s : ℤ) × (x ≡ s *ℤ g)
multiple_of (pos n) (pos m) d k e h = (pos k, positive m n k e)
  where
    positive : (m n k : ℕ) → n ≡ m * k → pos n ≡ pos k *ℤ pos m
    positive m n k e = ap pos (e ∙ omega arith)
multiple_of (negsuc n) (pos m) d k e h = (neg_ℤ (pos k), negative m n k e)
  where
    negative : (m n k : ℕ) → suc n ≡ m * k → negsuc n ≡ neg_ℤ (pos k) *ℤ pos m
    negative m n k e = ap (λ x. neg_ℤ (pos x)) (e ∙ mul_comm m k) ∙ turned (pos k) (pos m)
      where
        turned : (x y : ℤ) → neg_ℤ (x *ℤ y) ≡ neg_ℤ x *ℤ y
        turned x y = by_ring (x ∷ y ∷ []) _ _ (search quotes depth 16) (search quotes depth 16) refl
multiple_of x (negsuc m) d k e h = absurd (omega (arith, ints))

pub no_remainder : (x g q r : ℤ) (k : ℕ) → pos 0 <ℤ g → unsigned_abs x ≡ unsigned_abs g * k → unsigned_abs g ∣ unsigned_abs x → q *ℤ g +ℤ r ≡ x → unsigned_abs r < unsigned_abs g → x ≡ q *ℤ g
no_remainder x g q r k h e d f l =
    let s = multiple_of x g d k e h in
    let rest : r ≡ (s.0 -ℤ q) *ℤ g = left r (q *ℤ g) x f ∙ ap (λ (z : ℤ). z -ℤ q *ℤ g) s.1 ∙ by_ring (s.0 ∷ q ∷ g ∷ []) _ _ (search quotes depth 16) (search quotes depth 16) refl in
    let none : unsigned_abs (s.0 -ℤ q) ≡ 0 = below (unsigned_abs (s.0 -ℤ q)) (unsigned_abs g) (unsigned_abs r) (ap unsigned_abs rest ∙ unsigned_abs-mul (s.0 -ℤ q) g) l in
    s.1 ∙ ap (λ (z : ℤ). z *ℤ g) (same s.0 q none)
  where
    left : (r y x : ℤ) → y +ℤ r ≡ x → r ≡ x -ℤ y
    left r y x f = omega (arith, ints, f)

    below : (x y z : ℕ) → z ≡ x * y → z < y → x ≡ 0
    below zero y z e l = refl
    below (suc x) y z e l = absurd (omega (arith, e))

    same : (n m : ℤ) → unsigned_abs (n -ℤ m) ≡ 0 → n ≡ m
    same n m z = omega (arith, ints, z)

pub quotient_of : (x : ℤ) (g : ℕ) → 0 < g → g ∣ unsigned_abs x → (q : ℤ) × (x ≡ q *ℤ pos g)
quotient_of x g h d = multiple_of x (pos g) d (unsigned_abs x / g) (whole (unsigned_abs x) g (mod-eq-zero_of_dvd g d)) (pos-some g h)
  where
    whole : (n m : ℕ) → n % m ≡ 0 → n ≡ m * (n / m)
    whole n m e = omega (arith, e)

-- ---- the fraction n/d and what is left of it
pub abs_of : (x q : ℤ) (g : ℕ) → x ≡ q *ℤ pos g → unsigned_abs x ≡ unsigned_abs q * g
abs_of x q g e = ap unsigned_abs e ∙ unsigned_abs-mul q (pos g)

pub lowest_of : (n d m e : ℤ) (g : ℕ) → 0 < g → IsGcd (unsigned_abs n) (unsigned_abs d) g → pos 0 <ℤ d → n ≡ m *ℤ pos g → d ≡ e *ℤ pos g → IsLowest m e
lowest_of n d m e g some common h p q = record {
  positive = sign_out Plus e ((same_from_product _ _ (sym (sign_of-times e (pos g)) ∙ ap sign_of (sym q) ∙ sign_in Plus d h)).0 ∙ sign_in Plus (pos g) (pos-some g some));
  lowest = lowest_after (unsigned_abs n) (unsigned_abs d) (unsigned_abs m) (unsigned_abs e) g some common (abs_of n m g p) (abs_of d e g q);
}

pub crossed : (n d m e g : ℤ) → n ≡ m *ℤ g → d ≡ e *ℤ g → m *ℤ d ≡ n *ℤ e
crossed n d m e g p q = ap (λ (z : ℤ). m *ℤ z) q ∙ by_ring (m ∷ e ∷ g ∷ []) (m *ℤ (e *ℤ g)) ((m *ℤ g) *ℤ e) (search quotes depth 16) (search quotes depth 16) refl ∙ ap (λ (z : ℤ). z *ℤ e) (sym p)
