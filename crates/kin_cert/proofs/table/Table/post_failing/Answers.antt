use Rattle.kin_cert.proofs.Costs.{few_given}
use Rattle.kin_cert.proofs.Dues.{least-due}
use Rattle.kin_cert.proofs.Posting.{has_posted}
use Rattle.kin_cert.proofs.table.Table.post_failing.Goals as goal

pub post_each-requires-clause-due : goal.post_each-requires-clause-due
post_each-requires-clause-due g c = rw c.new.ensures (least-due c.args.self.now.live c.args.moment.now c.requires.none_waits c.requires.failing)

pub returns-clause-posted : goal.returns-clause-posted
returns-clause-posted g c =
    let out = c.in_ok-given.ensures in
    has_posted c.args.moment.now c.args.count c.args.self.now.live c.post_each.new.self.live c.post_each.new.mail _ c.requires.failing (rw c.new.ensures at out.posted) (rw c.new.ensures at out.all) c.post_each.ensures.count (rw c.post_each.ensures.boxes c.in_ok-empty.ensures.count)

pub returns-clause-cost : goal.returns-clause-cost
returns-clause-cost g c = few_given _ _ _ _ c.in_ok-given.ensures.cost
