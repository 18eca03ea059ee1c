use Rattle.std.proofs.Common.{w64}
use Rattle.kin_instant.proofs.Widths.{clean}
use Rattle.kin_c.proofs.time.kin_go_to_fraction.Goals as goal

pub returns : goal.returns
returns c =
    let done = rw (clean w64 c.args.n c.ranges.n.sfits, clean w64 c.args.d c.ranges.d.sfits, c.deref_mut.ensures.value) at c.go_to_fraction-status.ensures in
    (c.go_to_fraction-status.result, c.code-2.ensures, rw (c.in-Some.ensures.taken, c.put.ensures) done)
