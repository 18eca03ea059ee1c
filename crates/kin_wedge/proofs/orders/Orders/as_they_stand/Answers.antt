use Rattle.std.proofs.Common.{sym, ◌∙◌}
use Rattle.kin_wedge.specs.Rows.{row_of}
use Rattle.kin_wedge.specs.Seen.{rows_of}
use Rattle.kin_wedge.proofs.Passing.{otherwise}
use Rattle.kin_wedge.proofs.Places.{one_before}
use Rattle.kin_wedge.proofs.orders.Orders.as_they_stand.Goals as goal

pub returns-else-rises-clause-order : goal.returns-else-rises-clause-order
returns-else-rises-clause-order c =
    let row = row_of (rows_of c.args.self.now.lists.items) c.args.part in
    let apart = c.requires.rows.apart c.args.part in
    otherwise row apart c.args.a c.args.b (sym (c.rises.ensures c.args.a c.args.b c.place_of_member-place.ensures c.place_of_member-other.ensures) ∙ c.if-rises.false) (one_before row apart c.args.a c.args.b c.requires.a c.requires.b) c.requires.apart
