use Rattle.std.proofs.Common.{◌^◌, ◌≤◌, ◌<◌, ℕ, w32, w64, arith, rules, sym, subst, to_z, of_z, unsigned_abs}
use Rattle.std.specs.Prelude.{ℤ, pos, ◌≤ℤ◌}
use Rattle.kin_instant.proofs.Widths.{clean-abs, read_within}
use Rattle.kin_motion.proofs.PolyLaws.{square_low, sum_low}
use Rattle.kin_motion.specs.Course.{motion_limit}
use Rattle.kin_motion.specs.Sizes.{step_limit, product_limit, sum_limit}
use Rattle.kin_fail.proofs.approach.clearance.Goals as goal

-- a number that isn't negative isn't as the code reads it
read_low : (x : ℤ) (k : ℕ) → unsigned_abs x ≤ k → k < 2 ^ 63 → pos 0 ≤ℤ x → pos 0 ≤ℤ to_z w64 (of_z w64 x)
read_low x k h l low = rw (clean-abs w64 x (omega arith)) low

pub way-x-requires : goal.way-x-requires
way-x-requires c = record {
  from_small = read_within w32 c.x.result motion_limit c.x.ensures.small (omega arith);
  to_small = read_within w32 c.x-2.result motion_limit c.x-2.ensures.small (omega arith);
}

pub way-y-requires : goal.way-y-requires
way-y-requires c = record {
  from_small = read_within w32 c.y.result motion_limit c.y.ensures.small (omega arith);
  to_small = read_within w32 c.y-2.result motion_limit c.y-2.ensures.small (omega arith);
}

pub way-u-requires : goal.way-u-requires
way-u-requires c = record {
  from_small = read_within w32 c.u.result motion_limit c.u.ensures.small (omega arith);
  to_small = read_within w32 c.u-2.result motion_limit c.u-2.ensures.small (omega arith);
}

pub way-v-requires : goal.way-v-requires
way-v-requires c = record {
  from_small = read_within w32 c.v.result motion_limit c.v.ensures.small (omega arith);
  to_small = read_within w32 c.v-2.result motion_limit c.v-2.ensures.small (omega arith);
}

pub combined-requires : goal.combined-requires
combined-requires c = record {
  a_small = read_within w64 c.way-u.result step_limit c.way-u.ensures.size (omega arith);
  x_small = read_within w64 c.way-u.result step_limit c.way-u.ensures.size (omega arith);
  b_small = read_within w64 c.way-v.result step_limit c.way-v.ensures.size (omega arith);
  y_small = read_within w64 c.way-v.result step_limit c.way-v.ensures.size (omega arith);
}

pub combined-requires-2 : goal.combined-requires-2
combined-requires-2 c = record {
  a_small = read_within w64 c.way-u.result step_limit c.way-u.ensures.size (omega arith);
  x_small = read_within w64 c.way-x.result step_limit c.way-x.ensures.size (omega arith);
  b_small = read_within w64 c.way-v.result step_limit c.way-v.ensures.size (omega arith);
  y_small = read_within w64 c.way-y.result step_limit c.way-y.ensures.size (omega arith);
}

pub combined-requires-3 : goal.combined-requires-3
combined-requires-3 c = record {
  a_small = read_within w64 c.way-x.result step_limit c.way-x.ensures.size (omega arith);
  x_small = read_within w64 c.way-x.result step_limit c.way-x.ensures.size (omega arith);
  b_small = read_within w64 c.way-y.result step_limit c.way-y.ensures.size (omega arith);
  y_small = read_within w64 c.way-y.result step_limit c.way-y.ensures.size (omega arith);
}

pub lowered-requires : goal.lowered-requires
lowered-requires c = record {
  a_small = read_within w64 c.combined.result sum_limit c.combined.ensures.size (omega arith);
  b_small = read_within w64 c.combined-2.result sum_limit c.combined-2.ensures.size (omega arith);
  c_small = read_within w64 c.combined-3.result sum_limit c.combined-3.ensures.size (omega arith);
  c_low = read_low c.combined-3.result sum_limit c.combined-3.ensures.size (omega arith)
      (subst (λ z. pos 0 ≤ℤ z) (sym c.combined-3.ensures.value) (sum_low _ _ (square_low _) (square_low _)));
  square_small = read_within w64 c.square.result product_limit c.square.ensures.size (omega arith);
  square_low = read_low c.square.result product_limit c.square.ensures.size (omega arith) c.square.ensures.low;
}

pub returns : goal.returns
returns c = search rules
