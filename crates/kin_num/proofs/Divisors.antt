-- Common divisors, and what they say of fractions in lowest terms and of primitive quadratics.
use Rattle.std.proofs.Common.{◌≡◌, ℕ, zero, suc, ◌+◌, ◌-◌, ◌*◌, ◌<◌, ◌%◌, ◌/◌, [], ◌∷◌, ℤ, pos, negsuc, ◌*ℤ◌, unsigned_abs, sym, refl, ap, ◌∙◌, subst, arith, mod-lt}
use Rattle.std.specs.Prelude.{◌<ℤ◌, ◌-ℤ◌}
use Rattle.std.specs.Int.{IsGcd, ◌∣◌}
use Rattle.std.proofs.lemmas.Int.{ints, unsigned_abs-mul}
use Rattle.std.proofs.lemmas.Nat.Gcd.{IsGcd-from_zero, IsGcd-from_mod, same_from_IsGcd, dvd_refl, dvd_trans, dvd_antisymm}
use Rattle.std.proofs.Math.Nat.{mul-one}
use native.Mathlib.Nat.{dvd-mod_iff, dvd-sub, dvd-mul_right_of_dvd}
use Rattle.kin_algebra.proofs.Magnitudes.{same_from_difference, difference_of_same}
use Rattle.kin_algebra.specs.declared.sign.Sign.TheVariants.{Plus}
use Rattle.kin_algebra.specs.Signs.{sign_of}
use Rattle.kin_algebra.proofs.Integers.{integers}
use Rattle.kin_algebra.proofs.Ring.{by_ring, quotes}
use Rattle.kin_algebra.proofs.OrderedRings.{scale}
use Rattle.kin_algebra.proofs.IntegerSigns.{ordered_integers, sign_in, zero_of}
use Rattle.kin_num.specs.Canonical.{HaveNoCommonDivisor, IsLowest}

-- ---- greatest common divisors
gcd_by : (fuel a b : ℕ) → b < fuel → (g : ℕ) × IsGcd a b g
gcd_by zero a b h = absurd (omega arith)
gcd_by (suc fuel) a zero h = (a, IsGcd-from_zero a zero refl)
gcd_by (suc fuel) a (suc b) h =
    let r : a % suc b < suc b = mod-lt a (omega arith) in
    let k = gcd_by fuel (suc b) (a % suc b) (omega (arith, r, h)) in
    (k.0, IsGcd-from_mod a (suc b) k.0 k.1)

pub gcd_of : (a b : ℕ) → (g : ℕ) × IsGcd a b g
gcd_of a b = gcd_by (suc b) a b (omega arith)

gcd_of_rest : (a b g : ℕ) → IsGcd a b g → IsGcd b (a % b) g
gcd_of_rest a b g h = (h.1, (dvd-mod_iff g h.1).1 h.0, λ d p q. h.2 d ((dvd-mod_iff d p).0 q) p)

scaled_rest : (m a b k : ℕ) → k ∣ m * a → k ∣ m * b → k ∣ m * (a % b)
scaled_rest m a b k p q =
    let whole : b * (a / b) + a % b ≡ a = omega arith in
    let split : m * (a % b) ≡ m * a - (m * b) * (a / b) = omega (arith, ap (λ x. m * x) whole) in
    subst (λ x. k ∣ x) (sym split) (dvd-sub k p (dvd-mul_right_of_dvd k q (a / b)))

scaled_by : (fuel m a b g k : ℕ) → b < fuel → IsGcd a b g → k ∣ m * a → k ∣ m * b → k ∣ m * g
scaled_by zero m a b g k h i p q = absurd (omega arith)
scaled_by (suc fuel) m a zero g k h i p q = subst (λ x. k ∣ m * x) (same_from_IsGcd a zero a g (IsGcd-from_zero a zero refl) i) p
scaled_by (suc fuel) m a (suc b) g k h i p q =
    let r : a % suc b < suc b = mod-lt a (omega arith) in
    scaled_by fuel m (suc b) (a % suc b) g k (omega (arith, r, h)) (gcd_of_rest a (suc b) g i) q (scaled_rest m a (suc b) k p q)

-- what divides m*a and m*b divides m times their greatest common divisor
pub divides_scaled : (m a b g k : ℕ) → IsGcd a b g → k ∣ m * a → k ∣ m * b → k ∣ m * g
divides_scaled m a b g k = scaled_by (suc b) m a b g k (omega arith)

-- the same for three numbers with no common divisor
pub divides_primitive : (m a b c k : ℕ) → ((j : ℕ) → j ∣ a → j ∣ b → j ∣ c → j ≡ 1) → k ∣ m * a → k ∣ m * b → k ∣ m * c → k ∣ m
divides_primitive m a b c k alone p q r =
    let two = gcd_of a b in
    let all = gcd_of two.0 c in
    let nothing : all.0 ≡ 1 = alone all.0 (dvd_trans all.0 all.1.0 two.1.0) (dvd_trans all.0 all.1.0 two.1.1) all.1.1 in
    subst (λ x. k ∣ x) (ap (λ g. m * g) nothing ∙ mul-one m)
    (divides_scaled m two.0 c all.0 k all.1 (divides_scaled m a b two.0 k two.1 p q) r)

-- ---- signed numbers
same_size : (a b : ℤ) → pos 0 <ℤ a → pos 0 <ℤ b → unsigned_abs a ≡ unsigned_abs b → a ≡ b
same_size (pos m) (pos n) h k e = ap pos e
same_size (pos m) (negsuc n) h k e = absurd (omega (arith, ints))
same_size (negsuc m) b h k e = absurd (omega (arith, ints))

sizes : (a b c d : ℤ) → a *ℤ b ≡ c *ℤ d → unsigned_abs a * unsigned_abs b ≡ unsigned_abs c * unsigned_abs d
sizes a b c d e = sym (unsigned_abs-mul a b) ∙ ap unsigned_abs e ∙ unsigned_abs-mul c d

divides_product : (k m a b : ℕ) → k * a ≡ m * b → k ∣ m * b
divides_product k m a b e = subst (λ x. k ∣ x) e (dvd-mul_right_of_dvd k (dvd_refl k) a)

difference_times : (k a b : ℤ) → k *ℤ (a -ℤ b) ≡ k *ℤ a -ℤ k *ℤ b
difference_times k a b = by_ring (k ∷ a ∷ b ∷ []) _ _ (search quotes depth 20) (search quotes depth 20) refl

-- a positive factor goes away
pub cancel_factor : (k a b : ℤ) → pos 0 <ℤ k → k *ℤ a ≡ k *ℤ b → a ≡ b
cancel_factor k a b h e =
    let same : sign_of (k *ℤ (a -ℤ b)) ≡ sign_of (a -ℤ b) = scale ordered_integers (a -ℤ b) (sign_in Plus k h) in
    same_from_difference a b (zero_of (a -ℤ b) (sym same ∙ ap sign_of (difference_times k a b ∙ difference_of_same (k *ℤ a) (k *ℤ b) e)))

-- ---- one form for one ratio
divides_leading : (a b c a' b' c' : ℤ) → HaveNoCommonDivisor a' b' c' → a' *ℤ b ≡ a *ℤ b' → a' *ℤ c ≡ a *ℤ c' → unsigned_abs a' ∣ unsigned_abs a
divides_leading a b c a' b' c' alone e f =
    divides_primitive (unsigned_abs a) (unsigned_abs a') (unsigned_abs b') (unsigned_abs c') (unsigned_abs a') alone
    (divides_product (unsigned_abs a') (unsigned_abs a) (unsigned_abs a) (unsigned_abs a') (omega arith))
    (divides_product (unsigned_abs a') (unsigned_abs a) (unsigned_abs b) (unsigned_abs b') (sizes a' b a b' e))
    (divides_product (unsigned_abs a') (unsigned_abs a) (unsigned_abs c) (unsigned_abs c') (sizes a' c a c' f))

-- two primitive quadratics of one ratio are one
pub same_primitive : (a b c a' b' c' : ℤ) → pos 0 <ℤ a → pos 0 <ℤ a' → HaveNoCommonDivisor a b c → HaveNoCommonDivisor a' b' c' → a' *ℤ b ≡ a *ℤ b' → a' *ℤ c ≡ a *ℤ c' → (a ≡ a') × (b ≡ b') × (c ≡ c')
same_primitive a b c a' b' c' h h' alone alone' e f =
    let down = divides_leading a b c a' b' c' alone' e f in
    let up = divides_leading a' b' c' a b c alone (sym e) (sym f) in
    let one : a ≡ a' = same_size a a' h h' (dvd_antisymm up down) in
    (one, cancel_factor a' b b' h' (e ∙ ap (λ x. x *ℤ b') one), cancel_factor a' c c' h' (f ∙ ap (λ x. x *ℤ c') one))

-- where x*e = m*y, and m and e have no common divisor, e divides y
pub divides_across : (x y m e : ℤ) → IsGcd (unsigned_abs m) (unsigned_abs e) 1 → x *ℤ e ≡ m *ℤ y → unsigned_abs e ∣ unsigned_abs y
divides_across x y m e lowest same =
    subst (λ z. unsigned_abs e ∣ z) (mul-one (unsigned_abs y))
    (divides_scaled (unsigned_abs y) (unsigned_abs m) (unsigned_abs e) 1 (unsigned_abs e) lowest
    (divides_product (unsigned_abs e) (unsigned_abs y) (unsigned_abs x) (unsigned_abs m) (sizes e x y m (integers.times_comm e x ∙ same ∙ integers.times_comm m y)))
    (divides_product (unsigned_abs e) (unsigned_abs y) (unsigned_abs y) (unsigned_abs e) (omega arith)))

-- two fractions in lowest terms that are equal are one
pub same_lowest : (n d n' d' : ℤ) → IsLowest n d → IsLowest n' d' → n *ℤ d' ≡ n' *ℤ d → (n ≡ n') × (d ≡ d')
same_lowest n d n' d' i i' e =
    let down = divides_across n d n' d' i'.lowest e in
    let up = divides_across n' d' n d i.lowest (sym e) in
    let one : d ≡ d' = same_size d d' i.positive i'.positive (dvd_antisymm up down) in
    (cancel_factor d' n n' i'.positive (integers.times_comm d' n ∙ e ∙ ap (λ x. n' *ℤ x) one ∙ integers.times_comm n' d'), one)
