use Rattle.std.proofs.Common.{refl, w32}
use Rattle.kin_instant.proofs.Widths.{clean}
use Rattle.kin_c.proofs.structure.kin_inside.Goals as goal

pub returns : goal.returns
returns c =
    let x1 = clean w32 c.args.x1 c.ranges.x1.sfits in
    let x2 = clean w32 c.args.x2 c.ranges.x2.sfits in
    let y1 = clean w32 c.args.y1 c.ranges.y1.sfits in
    let y2 = clean w32 c.args.y2 c.ranges.y2.sfits in
    let answer = rw (x1, x2, y1, y2, c.deref.ensures) at c.inside-status.ensures in
    (c.inside-status.result, c.code-2.ensures, rw (c.in-Some.ensures.taken, c.put.ensures) (refl, answer))
