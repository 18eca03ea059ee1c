-- The whole root of a discriminant: how large it is, and where it isn't exact.
use Rattle.std.proofs.Common.{◌≡◌, ℕ, ◌+◌, ◌*◌, ◌<◌, ◌≤◌, ◌^◌, ℤ, pos, ◌-ℤ◌, ◌*ℤ◌, unsigned_abs, arith, ap, sym, ◌∙◌, subst, mul-le-mul, lt_of_not-le, not-le_of_lt}
use Rattle.std.specs.Prelude.{◌<ℤ◌}
use Rattle.std.proofs.lemmas.Int.{ints}
use Rattle.kin_algebra.proofs.Magnitudes.{size-product}
use Rattle.kin_num.specs.Quadratic.{IsSmall}
use Rattle.kin_num.specs.Canonical.{discriminant}
use Rattle.kin_num.specs.Roots.{IsWholeRoot}
use Rattle.kin_instant.specs.Roots.{quadratic}

pub discriminant_size : (a b c : ℤ) (k l m s : ℕ) → unsigned_abs a ≤ k → unsigned_abs b ≤ l → unsigned_abs c ≤ m → pos s ≡ discriminant a b c → s ≤ l * l + 4 * k * m
discriminant_size a b c k l m s h i j e =
    last (b *ℤ b) (pos 4 *ℤ a *ℤ c) (l * l) (4 * k * m) s (size-product b b l l i i) (size-product (pos 4 *ℤ a) c (4 * k) m (size-product (pos 4) a 4 k (omega arith) h) j) e
  where
    last : (x y : ℤ) (p q s : ℕ) → unsigned_abs x ≤ p → unsigned_abs y ≤ q → pos s ≡ x -ℤ y → s ≤ p + q
    last x y p q s h i e = omega (arith, ints, e)

pub size : (a b c : ℤ) (s : ℕ) → IsSmall (quadratic a b c) → pos s ≡ discriminant a b c → s < 2 ^ 63
size a b c s h e = omega (arith, discriminant_size a b c (2 ^ 29) (2 ^ 31) (2 ^ 29) s h.a_small h.b_small h.c_small e)

pub root_size : (r s : ℕ) → r * r ≤ s → s < 2 ^ 63 → r < 2 ^ 32
root_size r s h k = lt_of_not-le (λ l. not-le_of_lt (below s k) (over (2 ^ 32 * 2 ^ 32) (r * r) s (mul-le-mul l l) h))
  where
    below : (s : ℕ) → s < 2 ^ 63 → s < 2 ^ 32 * 2 ^ 32
    below s k = omega arith

    over : (x y z : ℕ) → x ≤ y → y ≤ z → x ≤ z
    over x y z h k = omega arith

-- between r and r + 1 there is no whole root
no_root : (r k : ℕ) → r * r ≤ k * k → k * k < (r + 1) * (r + 1) → (r * r ≡ k * k → ⊥) → ⊥
no_root r k h l n =
    let below : k < r + 1 = lt_of_not-le (λ m. not-le_of_lt l (mul-le-mul m m)) in
    let most : k ≤ r = omega arith in
    n (same (r * r) (k * k) h (mul-le-mul most most))
  where
    same : (x y : ℕ) → x ≤ y → y ≤ x → x ≡ y
    same x y h k = omega arith

pub irrational : (r s : ℕ) (d : ℤ) → IsWholeRoot s r → (r * r ≡ s → ⊥) → pos s ≡ d → (k : ℕ) → pos (k * k) ≡ d → ⊥
irrational r s d w n e k f =
    let same : s ≡ k * k = ap unsigned_abs (e ∙ sym f) in
    no_root r k (subst (λ (x : ℕ). r * r ≤ x) same w.at_most) (subst (λ (x : ℕ). x < (r + 1) * (r + 1)) same w.greatest) (λ g. n (g ∙ sym same))

pub same_discriminant : (a b c a' b' c' : ℤ) → a' ≡ a → b' ≡ b → c' ≡ c → discriminant a' b' c' ≡ discriminant a b c
same_discriminant a b c a' b' c' e f g = rw (e, f, g)

pub read_real : (a b c : ℤ) {a' b' c' : ℤ} → a' ≡ a → b' ≡ b → c' ≡ c → pos 0 <ℤ discriminant a b c → pos 0 <ℤ discriminant a' b' c'
read_real a b c e f g h = rw (e, f, g) h
