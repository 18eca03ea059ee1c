use Rattle.std.proofs.Common.{◌≢◌, ℕ, ◌/◌, ◌<◌, ◌^◌, arith, subst}
use Rattle.std.specs.Int.Count.{count_leading_zeros}
use Rattle.kin_num.specs.Roots.{IsWholeRoot}
use Rattle.kin_num.proofs.HeronRoots.{narrowed, spared}
use Rattle.kin_num.proofs.root.isqrt.Goals as goal

some : (x : ℕ) → x ≢ 0 → 0 < x
some x n = grind (arith, n)

pub isqrt_of_wide-requires : goal.isqrt_of_wide-requires
isqrt_of_wide-requires c =
    let k = spared c.args.x (some c.args.x c.if-x-eq0.false) c.ranges.x.fits in
    record { wide = k.wide }

pub returns : goal.returns
returns c =
    let k = spared c.args.x (some c.args.x c.if-x-eq0.false) c.ranges.x.fits in
    narrowed c.args.x (2 ^ (count_leading_zeros 64 c.args.x / 2)) c.isqrt_of_wide.result k.some (subst (λ (w : ℕ). IsWholeRoot w c.isqrt_of_wide.result) k.shifted (record { at_most = c.isqrt_of_wide.ensures.at_most; greatest = c.isqrt_of_wide.ensures.greatest }))
