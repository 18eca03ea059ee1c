use Rattle.std.proofs.Common.{◌≡◌, ℕ, ◌*◌, ◌/◌, ◌^◌, arith, ap, ◌∙◌, subst}
use Rattle.std.specs.Int.Count.{count_leading_zeros}
use Rattle.kin_num.specs.Roots.{IsWholeRoot}
use Rattle.kin_num.proofs.HeronRoots.{narrowed, spared}
use Rattle.kin_instant.proofs.wide_root.fine_root.Goals as goal

pub longer_root-requires : goal.longer_root-requires
longer_root-requires c = record { wide = (spared c.args.square c.requires.some c.ranges.square.fits).wide }

pub returns : goal.returns
returns c =
    let k = spared c.args.square c.requires.some c.ranges.square.fits in
    let n = count_leading_zeros 64 c.args.square / 2 in
    narrowed (c.args.square * 2 ^ 64) (2 ^ n) c.longer_root.result k.some
    (subst (λ (w : ℕ). IsWholeRoot w c.longer_root.result) (ap (λ (w : ℕ). w * 2 ^ 64) k.shifted ∙ turned c.args.square (2 ^ n * 2 ^ n) (2 ^ 64)) (record { at_most = c.longer_root.ensures.at_most; greatest = c.longer_root.ensures.greatest }))
  where
    turned : (x y z : ℕ) → (x * y) * z ≡ (x * z) * y
    turned x y z = omega arith
