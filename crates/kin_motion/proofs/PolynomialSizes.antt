-- How large the polynomials of forms are, where motions are slow.
use Rattle.std.proofs.Common.{◌≡◌, ℤ, ℕ, ◌≤◌, ◌^◌, ◌*◌, ◌+ℤ◌, ◌*ℤ◌, unsigned_abs, List, Option, Some, None, refl, arith}
use Rattle.kin_algebra.proofs.Magnitudes.{size-sum, size-difference, size-product}
use Rattle.kin_num.specs.Quadratic.{Quadratic, IsSmall, quadratic_sum}
use Rattle.kin_motion.specs.declared.form.Form.TheVariants.{Line, Turn, Slope, Dist}
use Rattle.kin_motion.specs.Course.{Course, IsSlow, AreSlow, motion_limit, motion_of}
use Rattle.kin_motion.specs.Forms.{Linear, minus, product, difference, along, x_of_course, y_of_course, x_step, y_step, polynomial_of, square_of_step}
use Rattle.kin_motion.specs.Sizes.{IsShort, IsWithin, IsLengthWithin, step_limit, product_limit, sum_limit}
use Rattle.kin_motion.specs.Theorems.{PolynomialsAreSmall}
use Rattle.kin_motion.proofs.PolyLaws.{length_plus, square_low, closer}

-- ---- numbers
-- ---- steps between points
record IsNear (p : Linear) : Type 0 where
  slope_most : unsigned_abs p.slope ≤ motion_limit
  start_most : unsigned_abs p.start ≤ motion_limit

x_near : (o : Option Course) → ((c : Course) → o ≡ Some c → IsSlow c) → IsNear (x_of_course o)
x_near None slow = record { slope_most = omega arith; start_most = omega arith }
x_near (Some c) slow = let s = slow c refl in record { slope_most = s.u_small; start_most = s.x_small }

y_near : (o : Option Course) → ((c : Course) → o ≡ Some c → IsSlow c) → IsNear (y_of_course o)
y_near None slow = record { slope_most = omega arith; start_most = omega arith }
y_near (Some c) slow = let s = slow c refl in record { slope_most = s.v_small; start_most = s.y_small }

minus_short : (p q : Linear) → IsNear p → IsNear q → IsShort (minus p q)
minus_short p q h k = record {
  slope_small = size-difference p.slope q.slope motion_limit motion_limit h.slope_most k.slope_most;
  start_small = size-difference p.start q.start motion_limit motion_limit h.start_most k.start_most;
}

module _ (ms : List (Option Course)) (slow : AreSlow ms) (i j : ℕ) where
  x_short : IsShort (x_step ms i j)
  x_short = minus_short (x_of_course (motion_of ms j)) (x_of_course (motion_of ms i)) (x_near (motion_of ms j) (slow.each j)) (x_near (motion_of ms i) (slow.each i))

  y_short : IsShort (y_step ms i j)
  y_short = minus_short (y_of_course (motion_of ms j)) (y_of_course (motion_of ms i)) (y_near (motion_of ms j) (slow.each j)) (y_near (motion_of ms i) (slow.each i))

-- ---- polynomials of steps
product_within : (p q : Linear) → IsShort p → IsShort q → IsWithin product_limit (product p q)
product_within p q h k = record {
  a_small = size-product p.slope q.slope step_limit step_limit h.slope_small k.slope_small;
  b_small = let e = size-sum (p.slope *ℤ q.start) (p.start *ℤ q.slope) product_limit product_limit
      (size-product p.slope q.start step_limit step_limit h.slope_small k.start_small)
      (size-product p.start q.slope step_limit step_limit h.start_small k.slope_small) in omega (arith, e);
  c_small = size-product p.start q.start step_limit step_limit h.start_small k.start_small;
}

square_within : (p : Linear) → IsShort p → IsLengthWithin product_limit (product p p)
square_within p h = record { within = product_within p p h h; a_low = square_low p.slope; c_low = square_low p.start }

pub length_within : (p q : Linear) → IsShort p → IsShort q → IsLengthWithin sum_limit (quadratic_sum (product p p) (product q q))
length_within p q h k = length_plus product_limit (product p p) (product q q) (square_within p h) (square_within q k)

-- by the triangle inequality
difference_small : (p q : Quadratic) → IsWithin product_limit p → IsWithin product_limit q → IsSmall (difference p q)
difference_small p q h k = record {
  a_small = size-difference p.a q.a product_limit product_limit h.a_small k.a_small;
  b_small = let e = size-difference p.b q.b (2 * product_limit) (2 * product_limit) h.b_small k.b_small in omega (arith, e);
  c_small = size-difference p.c q.c product_limit product_limit h.c_small k.c_small;
}

-- the triangle inequality is enough for the middle coefficient alone
pub lengths_small : (p q : Quadratic) → IsLengthWithin sum_limit p → IsLengthWithin sum_limit q → IsSmall (difference p q)
lengths_small p q h k = record {
  a_small = closer p.a q.a sum_limit h.a_low k.a_low h.within.a_small k.within.a_small;
  b_small = size-difference p.b q.b (2 * sum_limit) (2 * sum_limit) h.within.b_small k.within.b_small;
  c_small = closer p.c q.c sum_limit h.c_low k.c_low h.within.c_small k.within.c_small;
}

pub along_small : (dx dy off : ℤ) (x y : Linear) → unsigned_abs dx ≤ 16 → unsigned_abs dy ≤ 16 → unsigned_abs off ≤ 2 ^ 16 → IsShort x → IsShort y → IsSmall (along dx dy off x y)
along_small dx dy off x y dx_small dy_small off_small h k = record {
  a_small = omega arith;
  b_small = let e = both x.slope y.slope h.slope_small k.slope_small in omega (arith, e);
  c_small = let e = size-sum (dx *ℤ x.start +ℤ dy *ℤ y.start) off (2 * (16 * step_limit)) (2 ^ 16) (both x.start y.start h.start_small k.start_small) off_small in omega (arith, e);
}
  where
    both : (u v : ℤ) → unsigned_abs u ≤ step_limit → unsigned_abs v ≤ step_limit → unsigned_abs (dx *ℤ u +ℤ dy *ℤ v) ≤ 2 * (16 * step_limit)
    both u v f g = let e = size-sum (dx *ℤ u) (dy *ℤ v) (16 * step_limit) (16 * step_limit) (size-product dx u 16 step_limit dx_small f) (size-product dy v 16 step_limit dy_small g) in omega (arith, e)

pub polynomials_are_small : PolynomialsAreSmall
unfolding polynomial_of
polynomials_are_small ms (Line dx dy off i j) slow a =
    along_small dx dy off (x_step ms i j) (y_step ms i j) a.dx_small a.dy_small a.off_small (x_short ms slow i j) (y_short ms slow i j)
polynomials_are_small ms (Turn i j k) slow a =
    difference_small (product (x_step ms i j) (y_step ms i k)) (product (y_step ms i j) (x_step ms i k))
    (product_within (x_step ms i j) (y_step ms i k) (x_short ms slow i j) (y_short ms slow i k))
    (product_within (y_step ms i j) (x_step ms i k) (y_short ms slow i j) (x_short ms slow i k))
polynomials_are_small ms (Slope i j k l) slow a =
    difference_small (product (y_step ms i j) (x_step ms k l)) (product (y_step ms k l) (x_step ms i j))
    (product_within (y_step ms i j) (x_step ms k l) (y_short ms slow i j) (x_short ms slow k l))
    (product_within (y_step ms k l) (x_step ms i j) (y_short ms slow k l) (x_short ms slow i j))
polynomials_are_small ms (Dist i j k l) slow a =
    lengths_small (square_of_step ms k l) (square_of_step ms i j)
    (length_within (x_step ms k l) (y_step ms k l) (x_short ms slow k l) (y_short ms slow k l))
    (length_within (x_step ms i j) (y_step ms i j) (x_short ms slow i j) (y_short ms slow i j))
