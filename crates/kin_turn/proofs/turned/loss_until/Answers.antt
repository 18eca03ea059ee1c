use Rattle.std.proofs.Common.{◌≤◌, ◌<◌, ◌^◌, ◌*◌, ℤ, ◌*ℤ◌, unsigned_abs, w64, arith, subst, sym}
use Rattle.kin_algebra.proofs.Magnitudes.{size-product}
use Rattle.kin_instant.proofs.Widths.{clean, product-value}
use Rattle.kin_motion.specs.Sizes.{step_limit}
use Rattle.kin_turn.proofs.turned.loss_until.Goals as goal

small : (n s : ℤ) → unsigned_abs n ≤ 2 ^ 31 → unsigned_abs s ≤ step_limit → unsigned_abs (n *ℤ s) ≤ 2 ^ 31 * step_limit
small n s h k = size-product n s (2 ^ 31) step_limit h k

narrow : (z : ℤ) → unsigned_abs z ≤ 2 ^ 31 * step_limit → unsigned_abs z < 2 ^ 63
narrow z h = omega arith

pub returns-clause-value : goal.returns-clause-value
returns-clause-value c =
    let n = c.args.n in
    let s = c.args.slower in
    product-value w64 n s n s (clean w64 n c.ranges.n.sfits) (clean w64 s c.ranges.slower.sfits) (narrow (n *ℤ s) (small n s c.requires.n_small c.requires.slower))

pub returns-clause-small : goal.returns-clause-small
returns-clause-small c = subst (λ z. unsigned_abs z ≤ 2 ^ 31 * step_limit) (sym (returns-clause-value c)) (small c.args.n c.args.slower c.requires.n_small c.requires.slower)
