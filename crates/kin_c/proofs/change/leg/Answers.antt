use Rattle.std.proofs.Common.{w32}
use Rattle.kin_instant.proofs.Widths.{clean}
use Rattle.kin_c.proofs.change.leg.Goals as goal

pub returns-in-Ok : goal.returns-in-Ok
returns-in-Ok c =
    let may = rw (clean w32 c.args.u c.ranges.u.sfits, clean w32 c.args.v c.ranges.v.sfits) at c.in-Ok.ensures.may in
    let planned = rw (clean w32 c.args.u c.ranges.u.sfits, clean w32 c.args.v c.ranges.v.sfits) at c.in-Ok.ensures.planned in
    (may, planned)
