use Rattle.std.proofs.Common.{w64, arith}
use Rattle.kin_instant.proofs.Widths.{clean}
use Rattle.kin_instant.proofs.RationalRoots.{line_small}
use Rattle.kin_instant.proofs.ratio.ratio.Goals as goal

pub reduced-requires-clause-small : goal.reduced-requires-clause-small
reduced-requires-clause-small c =
    rw (clean w64 c.args.n c.ranges.n.sfits, clean w64 c.args.d c.ranges.d.sfits)
    (line_small c.args.n c.args.d c.requires.d_positive (omega (arith, c.requires.n_small)) (omega (arith, c.requires.d_small)))
