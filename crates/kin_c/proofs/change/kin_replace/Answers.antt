use Rattle.std.proofs.Common.{w32}
use Rattle.kin_instant.proofs.Widths.{clean}
use Rattle.kin_c.proofs.change.kin_replace.Goals as goal

pub returns : goal.returns
returns c =
    let x = clean w32 c.args.x c.ranges.x.sfits in
    let y = clean w32 c.args.y c.ranges.y.sfits in
    let u = clean w32 c.args.u c.ranges.u.sfits in
    let v = clean w32 c.args.v c.ranges.v.sfits in
    let done = rw (x, y, u, v, c.deref_mut.ensures.value) at c.replace-status.ensures in
    (c.replace-status.result, c.code-2.ensures, rw (c.in-Some.ensures.taken, c.put.ensures) done)
