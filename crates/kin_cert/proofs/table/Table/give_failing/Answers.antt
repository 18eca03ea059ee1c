use Rattle.kin_cert.proofs.Dues.{least-due}
use Rattle.kin_cert.proofs.Taking.{has-given_out}
use Rattle.kin_algebra.proofs.Results.{from_two}
use Rattle.kin_cert.proofs.Costs.{few_given}
use Rattle.kin_cert.proofs.table.Table.give_failing.Goals as goal

pub give_all-requires-clause-due : goal.give_all-requires-clause-due
give_all-requires-clause-due g c = rw c.new.ensures (least-due c.args.self.now.live c.args.moment.now c.requires.none_waits c.requires.failing)

pub returns-clause-given : goal.returns-clause-given
returns-clause-given g c =
    from_two c.give_all.result
    (λ given all. has-given_out c.args.moment.now c.args.self.now.live c.give_all.new.self.live c.give_all.new.taken.items c.requires.failing given all c.give_all.ensures.count)
    (rw c.new.ensures at c.give_all.ensures.given) (rw c.new.ensures at c.give_all.ensures.all)

pub returns-clause-cost : goal.returns-clause-cost
returns-clause-cost g c = from_two c.give_all.result (λ few again. few_given _ _ _ _ few) c.give_all.ensures.cost c.give_all.ensures.cost

pub give_all-requires-clause-empty : goal.give_all-requires-clause-empty
give_all-requires-clause-empty g c = c.clear.ensures.items
