-- How large the steps between points whose motions are slow are, and the coefficients of their products and sums.
use Rattle.std.specs.Prelude.{ℕ, pos, ◌≤◌, ◌*◌, ◌≤ℤ◌, unsigned_abs}
use Rattle.kin_num.specs.Quadratic.{Quadratic}
use Rattle.kin_motion.specs.Course.{motion_limit}
use Rattle.kin_motion.specs.Forms.{Linear}

-- the greatest size of a number in a coordinate of a step
abbrev pub step_limit : ℕ
step_limit = 2 * motion_limit

-- the same of a product of two such numbers
abbrev pub product_limit : ℕ
product_limit = step_limit * step_limit

-- the same of a sum of two such products
abbrev pub sum_limit : ℕ
sum_limit = 2 * product_limit

-- a coordinate of a step between two points whose motions are slow
pub record IsShort (p : Linear) : Type 0 where
  pub slope_small : unsigned_abs p.slope ≤ step_limit
  pub start_small : unsigned_abs p.start ≤ step_limit

-- the outer coefficients are at most n in size, and the middle one is at most twice that
pub record IsWithin (n : ℕ) (p : Quadratic) : Type 0 where
  pub a_small : unsigned_abs p.a ≤ n
  pub b_small : unsigned_abs p.b ≤ 2 * n
  pub c_small : unsigned_abs p.c ≤ n

-- and the outer coefficients aren't negative, as in a squared length
pub record IsLengthWithin (n : ℕ) (p : Quadratic) : Type 0 where
  pub within : IsWithin n p
  pub a_low : pos 0 ≤ℤ p.a
  pub c_low : pos 0 ≤ℤ p.c
