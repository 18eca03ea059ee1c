use Rattle.kin_wedge.specs.Rows.{row_of}
use Rattle.kin_wedge.specs.Seen.{rows_of}
use Rattle.kin_wedge.proofs.Scanning.{compared}
use Rattle.kin_wedge.proofs.orders.Orders.rises.Goals as goal

pub returns : goal.returns
returns c = λ p q h k. compared (row_of (rows_of c.args.self.now.lists.items) c.args.part) (c.requires.apart c.args.part) c.args.first c.args.second p q h k
