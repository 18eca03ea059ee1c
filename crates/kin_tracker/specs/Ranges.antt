-- The ranges of numbers.
use Rattle.std.specs.Prelude.{ℕ, ◌≤◌, ◌<◌, ◌^◌, ℤ, pos, ◌<ℤ◌, unsigned_abs}
use Rattle.kin_motion.specs.Course.{motion_limit}

-- a velocity that a motion may have
pub record IsSlowVelocity (u v : ℤ) : Type 0 where
  pub u_small : unsigned_abs u ≤ motion_limit
  pub v_small : unsigned_abs v ≤ motion_limit

-- a whole instant at which a leg may begin, and a velocity that it may have
pub record IsLegInRange (at : ℕ) (u v : ℤ) : Type 0 where
  pub soon : at < 2 ^ 31
  pub slow : IsSlowVelocity u v

-- the numbers of a fraction, in lowest terms or not
pub record IsFractionInRange (n d : ℤ) : Type 0 where
  pub n_small : unsigned_abs n < 2 ^ 31
  pub d_positive : pos 0 <ℤ d
  pub d_small : unsigned_abs d < 2 ^ 31
