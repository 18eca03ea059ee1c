use Rattle.std.proofs.Common.{subst}
use Rattle.kin_wedge.specs.Rows.{row_of}
use Rattle.kin_wedge.specs.Seen.{rows_of}
use Rattle.kin_wedge.specs.Sides.{IsPlace}
use Rattle.kin_wedge.proofs.Scanning.{compared, absent_first, absent_second}
use Rattle.kin_wedge.proofs.orders.Orders.places_rise.Goals as goal

pub returns-in-Some-Some : goal.returns-in-Some-Some
returns-in-Some-Some c = λ p q h k.
    let row = row_of (rows_of c.args.self.now.lists.items) c.args.part in
    compared row (c.requires.rows.apart c.args.part) c.in-Some-Some.i c.in-Some-Some.j p q (subst (IsPlace row p) c.in-Some-Some.is-0 h) (subst (IsPlace row q) c.in-Some-Some.is-1 k)

pub returns-in_default : goal.returns-in_default
returns-in_default c = λ p q h k.
    let row = row_of (rows_of c.args.self.now.lists.items) c.args.part in
    absent_second row p q (subst (IsPlace row q) c.in_default.is-1 k)

pub returns-in_default-2 : goal.returns-in_default-2
returns-in_default-2 c = λ p q h k.
    let row = row_of (rows_of c.args.self.now.lists.items) c.args.part in
    absent_first row p q (subst (IsPlace row p) c.in_default.is-0 h)
