-- A quadratic divided by the greatest common divisor of its coefficients.
use Rattle.std.proofs.Common.{◌≡◌, ◌≢◌, ℕ, ◌*◌, ◌<◌, ◌≤◌, ◌^◌, Bool, ℤ, pos, negsuc, ◌*ℤ◌, unsigned_abs, arith, refl, ap, sym, ◌∙◌, subst}
use Rattle.std.specs.Prelude.{◌<ℤ◌}
use Rattle.std.specs.Int.{◌∣◌}
use Rattle.std.proofs.lemmas.Int.{ints, unsigned_abs-mul}
use Rattle.std.proofs.lemmas.Nat.Gcd.{dvd_antisymm}
use Rattle.std.proofs.Math.Nat.{mul_comm, mul-one, mul-dvd-mul_left, dvd_of_mul-dvd-mul_left, one-dvd}
use Rattle.kin_algebra.proofs.Magnitudes.{size-some}
use Rattle.kin_num.specs.declared.instant.Shape.TheVariants.{Root}
use Rattle.kin_num.specs.Quadratic.{IsSmall}
use Rattle.kin_num.specs.Canonical.{IsCanonical, HaveNoCommonDivisor, discriminant}
use Rattle.kin_instant.specs.Roots.{quadratic}
use Rattle.kin_instant.proofs.RootsOf.{irreducible_after}

as_natural : (g : ℤ) → pos 0 <ℤ g → g ≡ pos (unsigned_abs g)
as_natural (pos n) h = refl
as_natural (negsuc n) h = absurd (omega (arith, ints))

abs_of : (x q g : ℤ) → x ≡ q *ℤ g → unsigned_abs x ≡ unsigned_abs g * unsigned_abs q
abs_of x q g e = ap unsigned_abs e ∙ unsigned_abs-mul q g ∙ mul_comm (unsigned_abs q) (unsigned_abs g)

-- after division by the greatest common divisor none is left but 1
primitive : (a b c a' b' c' g : ℤ) → pos 0 <ℤ g → ((k : ℕ) → k ∣ unsigned_abs a → k ∣ unsigned_abs b → k ∣ unsigned_abs c → k ∣ unsigned_abs g) → a ≡ a' *ℤ g → b ≡ b' *ℤ g → c ≡ c' *ℤ g → HaveNoCommonDivisor a' b' c'
primitive a b c a' b' c' g h greatest e f l = λ k p q r.
    dvd_antisymm (dvd_of_mul-dvd-mul_left k (size-some g h) (subst (λ (x : ℕ). unsigned_abs g * k ∣ x) (sym (mul-one (unsigned_abs g)))
    (greatest (unsigned_abs g * k) (subst (λ (x : ℕ). unsigned_abs g * k ∣ x) (sym (abs_of a a' g e)) (mul-dvd-mul_left k (unsigned_abs g) p)) (subst (λ (x : ℕ). unsigned_abs g * k ∣ x) (sym (abs_of b b' g f)) (mul-dvd-mul_left k (unsigned_abs g) q)) (subst (λ (x : ℕ). unsigned_abs g * k ∣ x) (sym (abs_of c c' g l)) (mul-dvd-mul_left k (unsigned_abs g) r))))) (one-dvd k)

not_more : (x q g : ℤ) (m : ℕ) → pos 0 <ℤ g → x ≡ q *ℤ g → unsigned_abs x ≤ m → unsigned_abs q ≤ m
not_more x q g m h e k = at_least (unsigned_abs q) (unsigned_abs g) (unsigned_abs x) m (size-some g h) (abs_of x q g e) k
  where
    at_least : (q g x m : ℕ) → 0 < g → x ≡ g * q → x ≤ m → q ≤ m
    at_least q g x m h e k = grind (arith, e)

pub canonical : (a b c a' b' c' g : ℤ) (upper : Bool) → pos 0 <ℤ g → pos 0 <ℤ a → IsSmall (quadratic a b c) → pos 0 <ℤ discriminant a b c → ((k : ℕ) → pos (k * k) ≢ discriminant a b c)
    → ((k : ℕ) → k ∣ unsigned_abs a → k ∣ unsigned_abs b → k ∣ unsigned_abs c → k ∣ unsigned_abs g) → a ≡ a' *ℤ g → b ≡ b' *ℤ g → c ≡ c' *ℤ g → IsCanonical (Root a' b' c' upper)
canonical a b c a' b' c' g upper h a_positive small real irrational greatest e f l =
    let n = as_natural g h in
    record {
      form = irreducible_after a b c a' b' c' (unsigned_abs g) (size-some g h) a_positive real irrational (e ∙ ap (λ (z : ℤ). a' *ℤ z) n) (f ∙ ap (λ (z : ℤ). b' *ℤ z) n) (l ∙ ap (λ (z : ℤ). c' *ℤ z) n) (primitive a b c a' b' c' g h greatest e f l);
      small = record { a_small = not_more a a' g (2 ^ 29) h e small.a_small; b_small = not_more b b' g (2 ^ 31) h f small.b_small; c_small = not_more c c' g (2 ^ 29) h l small.c_small };
    }
