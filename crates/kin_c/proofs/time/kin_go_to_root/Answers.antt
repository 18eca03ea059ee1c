use Rattle.std.proofs.Common.{w64}
use Rattle.kin_instant.proofs.Widths.{clean}
use Rattle.kin_c.proofs.time.kin_go_to_root.Goals as goal

pub returns : goal.returns
returns c =
    let done = rw (clean w64 c.args.a c.ranges.a.sfits, clean w64 c.args.b c.ranges.b.sfits, clean w64 c.args.c c.ranges.c.sfits, c.deref_mut.ensures.value) at c.go_to_root-status.ensures in
    (c.go_to_root-status.result, c.code-2.ensures, rw (c.in-Some.ensures.taken, c.put.ensures) done)
