use Rattle.kin_wedge.specs.Seen.{rows_of}
use Rattle.kin_wedge.proofs.Entering.{only_there}
use Rattle.kin_wedge.proofs.touch.Touches.offer.Goals as goal

pub returns-clause-offered : goal.returns-clause-offered
returns-clause-offered c = only_there (rows_of c.args.orders.now.lists.items) c.args.table.now c.args.apex c.args.no c.args.w c.leads-wanted.result c.add_if.new.self.all.items c.requires.there (λ o. c.leads-wanted.ensures c.args.no o c.requires.rank) c.in_ok-add_if.ensures.offered
