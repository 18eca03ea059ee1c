-- Polynomials by their coefficients.
use Rattle.std.proofs.Common.{◌≡◌, ◌≤◌, ℤ, ℕ, ◌*◌, unsigned_abs, arith, to_z, of_z, w32}
use Rattle.std.specs.Prelude.{pos, negsuc, ◌+ℤ◌, ◌-ℤ◌, ◌*ℤ◌, ◌≤ℤ◌}
use Rattle.std.proofs.lemmas.Int.{ints, to_z-of_z}
use Rattle.kin_algebra.proofs.Magnitudes.{size-sum}
use Rattle.kin_num.specs.Quadratic.{Quadratic, quadratic_sum}
use Rattle.kin_motion.specs.Course.{motion_limit}
use Rattle.kin_motion.specs.Sizes.{IsWithin, IsLengthWithin}

pub of_parts : (a b c : ℤ) (q : Quadratic) → a ≡ q.a → b ≡ q.b → c ≡ q.c → record { a = a; b = b; c = c } ≡ q
of_parts a b c q e f g = λ t. record { a = e t; b = f t; c = g t }

pub within_plus : (n : ℕ) (p q : Quadratic) → IsWithin n p → IsWithin n q → IsWithin (2 * n) (quadratic_sum p q)
within_plus n p q h k = record {
  a_small = let e = size-sum p.a q.a n n h.a_small k.a_small in omega (arith, e);
  b_small = let e = size-sum p.b q.b (2 * n) (2 * n) h.b_small k.b_small in omega (arith, e);
  c_small = let e = size-sum p.c q.c n n h.c_small k.c_small in omega (arith, e);
}

-- ---- numbers that aren't negative
pub square_low : (z : ℤ) → pos 0 ≤ℤ (z *ℤ z)
square_low (pos n) = omega (arith, ints)
square_low (negsuc n) = omega (arith, ints)

pub sum_low : (x y : ℤ) → pos 0 ≤ℤ x → pos 0 ≤ℤ y → pos 0 ≤ℤ (x +ℤ y)
sum_low x y h k = omega (arith, ints)

-- their difference is no greater than the greater one
pub closer : (x y : ℤ) (n : ℕ) → pos 0 ≤ℤ x → pos 0 ≤ℤ y → unsigned_abs x ≤ n → unsigned_abs y ≤ n → unsigned_abs (x -ℤ y) ≤ n
closer x y n h k f g = omega (arith, ints)

pub length_plus : (n : ℕ) (p q : Quadratic) → IsLengthWithin n p → IsLengthWithin n q → IsLengthWithin (2 * n) (quadratic_sum p q)
length_plus n p q h k = record { within = within_plus n p q h.within k.within; a_low = sum_low p.a q.a h.a_low k.a_low; c_low = sum_low p.c q.c h.c_low k.c_low }

-- a small number is handed on as it is
pub handed_small : (x : ℤ) → unsigned_abs x ≤ motion_limit → unsigned_abs (to_z w32 (of_z w32 x)) ≤ motion_limit
handed_small x h = grind (arith, to_z-of_z, h)
