-- Sizes of instants and heights of their polynomials: of any canonical form, and under bounds.
use Rattle.std.proofs.Common.{ℕ, zero, suc, true, false, sym, subst, ◌+◌, ◌*◌, ◌≤◌, ◌<◌, ◌^◌, arith, mul-le-mul, unsigned_abs}
use Rattle.std.specs.Prelude.{ℤ, pos, negsuc, ◌-ℤ◌, ◌*ℤ◌, ◌≤ℤ◌}
use Rattle.std.proofs.lemmas.Int.{ints, unsigned_abs-mul}
use lib.IntN.{neg_ℤ}
use Rattle.kin_num.specs.declared.instant.Shape.{Shape}
use Rattle.kin_num.specs.declared.instant.Shape.TheVariants.{Ratio, Root}
use Rattle.kin_num.specs.Quadratic.{Quadratic, quadratic}
use Rattle.kin_num.specs.Canonical.{IsCanonicalForm, IsSmallShape, discriminant}
use Rattle.kin_num.specs.Instants.{number_of, line, derivative}
use Rattle.kin_num.proofs.Values.{canonical-sound}
use Rattle.kin_num.proofs.Near.{size_negative, size_double, HasHeight, HasSize, IsFine}
use Rattle.kin_num.proofs.RootZeros.{divisor-positive}

-- ---- heights
pub record HaveHeight (a b c : ℤ) (h : ℕ) : Type 0 where
  pub own : HasHeight (quadratic a b c) h
  pub slope : HasHeight (derivative (quadratic a b c)) h

-- the polynomials that a shape is compared by: the line of a fraction, the quadratic of a root and its derivative
abbrev pub HasShapeHeight : Shape → ℕ → Type 0
HasShapeHeight (Ratio n d) h = HasHeight (line n d) h
HasShapeHeight (Root a b c upper) h = HaveHeight a b c h

pub line-height : (n d : ℤ) (h : ℕ) → unsigned_abs n ≤ h → unsigned_abs d ≤ h → HasHeight (line n d) h
line-height n d h n_most d_most = record {
  a_most = omega arith;
  b_most = d_most;
  c_most = subst (λ k. k ≤ h) (sym (size_negative n)) n_most;
}

pub quadratic-height : (a b c : ℤ) (h : ℕ) → 2 * unsigned_abs a ≤ h → unsigned_abs b ≤ h → unsigned_abs c ≤ h → HaveHeight a b c h
quadratic-height a b c h a_most b_most c_most = record {
  own = record { a_most = omega (arith, a_most); b_most = b_most; c_most = c_most };
  slope = record { a_most = omega arith; b_most = subst (λ k. k ≤ h) (sym (size_double a)) a_most; c_most = b_most };
}

abbrev pub height_of : Shape → ℕ
height_of (Ratio n d) = unsigned_abs n + unsigned_abs d + 1
height_of (Root a b c upper) = 2 * unsigned_abs a + unsigned_abs b + unsigned_abs c + 1

pub own_height : (w : Shape) → HasShapeHeight w (height_of w)
own_height (Ratio n d) = line-height n d _ (omega arith) (omega arith)
own_height (Root a b c upper) = quadratic-height a b c _ (omega arith) (omega arith) (omega arith)

pub height_some : (w : Shape) → 0 < height_of w
height_some (Ratio n d) = omega arith
height_some (Root a b c upper) = omega arith

-- a height of a polynomial and its derivative
abbrev pub tall : Quadratic → ℕ
tall p = 2 * unsigned_abs p.a + unsigned_abs p.b + unsigned_abs p.c + 1

pub tall-height : (p : Quadratic) (h : ℕ) → tall p ≤ h → HaveHeight p.a p.b p.c h
tall-height p h k = quadratic-height p.a p.b p.c h (omega (arith, k)) (omega (arith, k)) (omega (arith, k))

-- ---- sizes
pub size_by : (w : Shape) → IsCanonicalForm w → (r m : ℕ) → pos 0 ≤ℤ (pos (r * r) -ℤ (number_of w).radicand) → unsigned_abs (number_of w).whole + unsigned_abs (number_of w).root * r ≤ m → unsigned_abs (number_of w).divisor ≤ m → HasSize (number_of w) m
size_by w form r m radicand_most point_most divisor_most = record {
  sound = canonical-sound w form;
  positive = divisor-positive w form;
  divisor_most = divisor_most;
  root_bound = r;
  radicand_most = radicand_most;
  point_most = point_most;
}

below_square : (z : ℤ) → pos 0 ≤ℤ (pos (unsigned_abs z * unsigned_abs z) -ℤ z)
below_square (pos zero) = omega (arith, ints)
below_square (pos (suc n)) = omega (arith, ints, mul-le-mul (one_most n) (most (suc n)))
  where
    one_most : (n : ℕ) → 1 ≤ suc n
    one_most n = omega arith

    most : (n : ℕ) → n ≤ n
    most n = omega arith
below_square (negsuc n) = omega (arith, ints)

abbrev pub size_of : Shape → ℕ
size_of w = unsigned_abs (number_of w).whole + unsigned_abs (number_of w).root * unsigned_abs (number_of w).radicand + unsigned_abs (number_of w).divisor

pub own_size : (w : Shape) → IsCanonicalForm w → HasSize (number_of w) (size_of w)
own_size w form = size_by w form (unsigned_abs (number_of w).radicand) (size_of w) (below_square (number_of w).radicand) (omega arith) (omega arith)

-- ---- within the bounds
pub small_height : (w : Shape) → IsSmallShape w → HasShapeHeight w (2 ^ 31)
small_height (Ratio n d) k = line-height n d (2 ^ 31) k.n_small k.d_small
small_height (Root a b c upper) k = quadratic-height a b c (2 ^ 31) (omega (arith, k.a_small)) k.b_small (omega (arith, k.c_small))

square_below : (z : ℤ) (k : ℕ) → unsigned_abs z ≤ k → (z *ℤ z) ≤ℤ pos (k * k)
square_below (pos n) k h = omega (arith, ints, mul-le-mul h h)
square_below (negsuc n) k h = omega (arith, ints, mul-le-mul h h)

product_above : (x y : ℤ) (j k : ℕ) → unsigned_abs x ≤ j → unsigned_abs y ≤ k → neg_ℤ (pos (j * k)) ≤ℤ (x *ℤ y)
product_above (pos m) (pos n) j k g h = omega (arith, ints)
product_above (pos m) (negsuc n) j k g h = omega (arith, ints, mul-le-mul g h)
product_above (negsuc m) (pos n) j k g h = omega (arith, ints, mul-le-mul g h)
product_above (negsuc m) (negsuc n) j k g h = omega (arith, ints)

root_room : (b x c : ℤ) → unsigned_abs b ≤ 2 ^ 31 → unsigned_abs x ≤ 2 ^ 31 → unsigned_abs c ≤ 2 ^ 29 → pos 0 ≤ℤ (pos (2 ^ 32 * 2 ^ 32) -ℤ (b *ℤ b -ℤ x *ℤ c))
root_room b x c b_most x_most c_most = room (b *ℤ b) (x *ℤ c) (square_below b (2 ^ 31) b_most) (product_above x c (2 ^ 31) (2 ^ 29) x_most c_most)
  where
    room : (s p : ℤ) → s ≤ℤ pos (2 ^ 31 * 2 ^ 31) → neg_ℤ (pos (2 ^ 31 * 2 ^ 29)) ≤ℤ p → pos 0 ≤ℤ (pos (2 ^ 32 * 2 ^ 32) -ℤ (s -ℤ p))
    room s p h k = omega (arith, ints)

discriminant_most : (a b c : ℤ) → unsigned_abs a ≤ 2 ^ 29 → unsigned_abs b ≤ 2 ^ 31 → unsigned_abs c ≤ 2 ^ 29 → pos 0 ≤ℤ (pos (2 ^ 32 * 2 ^ 32) -ℤ discriminant a b c)
discriminant_most a b c a_most b_most c_most = root_room b (pos 4 *ℤ a) c b_most (four_times a a_most) c_most
  where
    four_times : (a : ℤ) → unsigned_abs a ≤ 2 ^ 29 → unsigned_abs (pos 4 *ℤ a) ≤ 2 ^ 31
    four_times a h = omega (arith, unsigned_abs-mul (pos 4) a, h)

root_point : (b : ℤ) → unsigned_abs b ≤ 2 ^ 31 → unsigned_abs (neg_ℤ b) + 1 * 2 ^ 32 ≤ 2 ^ 33
root_point b h = omega (arith, size_negative b, h)

double_most : (a : ℤ) → unsigned_abs a ≤ 2 ^ 29 → unsigned_abs (pos 2 *ℤ a) ≤ 2 ^ 33
double_most a h = omega (arith, size_double a, h)

pub small_size : (w : Shape) → IsCanonicalForm w → IsSmallShape w → HasSize (number_of w) (2 ^ 33)
small_size (Ratio n d) form k = size_by (Ratio n d) form 0 (2 ^ 33) (omega (arith, ints)) (omega (arith, k.n_small)) (omega (arith, k.d_small))
small_size (Root a b c true) form k = size_by (Root a b c true) form (2 ^ 32) (2 ^ 33) (discriminant_most a b c k.a_small k.b_small k.c_small) (root_point b k.b_small) (double_most a k.a_small)
small_size (Root a b c false) form k = size_by (Root a b c false) form (2 ^ 32) (2 ^ 33) (discriminant_most a b c k.a_small k.b_small k.c_small) (root_point b k.b_small) (double_most a k.a_small)

-- 2^200 is fine enough for the bounds
pub small_some : 0 < 2 ^ 31
small_some = omega arith

pub small_fine : IsFine (2 ^ 31) (2 ^ 33) (2 ^ 200)
small_fine = omega arith
