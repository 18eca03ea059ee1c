use Rattle.std.proofs.Common.{sym, ◌∙◌, rules}
use Rattle.std.specs.FinMap as map
use Rattle.kin_cert.proofs.Tables.{none-of, remove-absent}
use Rattle.kin_cert.proofs.Costs.{one_if, none_if}
use Rattle.kin_cert.proofs.timing.unqueue.Goals as goal

pub returns-else-vacancy-clause-rest : goal.returns-else-vacancy-clause-rest
returns-else-vacancy-clause-rest g c =
    sym (remove-absent c.args.schedule.now c.args.vacancy.id (none-of (map.get c.args.schedule.now c.args.vacancy.id) (c.requires ∙ c.if-vacancy.false)))

pub returns-then-vacancy-clause-cost : goal.returns-then-vacancy-clause-cost
returns-then-vacancy-clause-cost g c = one_if _ _ _ _ c.if-vacancy.true c.remove.ensures.cost

pub returns-else-vacancy-clause-cost : goal.returns-else-vacancy-clause-cost
returns-else-vacancy-clause-cost g c = none_if _ _ _

pub remove-requires : goal.remove-requires
remove-requires g c = search rules

pub returns-then-vacancy-clause-rest : goal.returns-then-vacancy-clause-rest
returns-then-vacancy-clause-rest g c = c.remove.ensures.rest
