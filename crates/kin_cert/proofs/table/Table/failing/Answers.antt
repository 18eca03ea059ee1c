use Rattle.kin_cert.proofs.Dues.{least-if, none-if}
use Rattle.kin_cert.proofs.table.Table.failing.Goals as goal

pub returns-clause-least : goal.returns-clause-least
returns-clause-least c = least-if c.args.self.now.live c.due.result c.requires c.due.ensures

pub returns-clause-none : goal.returns-clause-none
returns-clause-none c = none-if c.args.self.now.live c.due.result c.requires c.due.ensures
