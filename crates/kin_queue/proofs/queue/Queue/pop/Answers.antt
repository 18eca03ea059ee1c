use Rattle.std.proofs.Common.{refl, sym, ap, subst, ◌∙◌, ℕ, Option, IsSome}
use Rattle.kin_num.specs.declared.instant.Moment.{Moment}
use Rattle.kin_queue.specs.Agenda.{without}
use Rattle.kin_queue.proofs.Costs.{none_taken}
use Rattle.kin_queue.proofs.queue.Queue.pop.Goals as goal

pub returns-in_err-next-clause-value : goal.returns-in_err-next-clause-value
returns-in_err-next-clause-value g c = c.from_residual.ensures ∙ c.in_err-next.ensures.value

pub returns-in_err-next-clause-least : goal.returns-in_err-next-clause-least
returns-in_err-next-clause-least g c = c.first.ensures.least

pub returns-in_err-next-clause-rest : goal.returns-in_err-next-clause-rest
returns-in_err-next-clause-rest g c = rw c.from_residual.ensures

pub returns-in_err-next-clause-cost : goal.returns-in_err-next-clause-cost
returns-in_err-next-clause-cost g c = none_taken _ _

pub take_next-requires : goal.take_next-requires
take_next-requires g c = subst (λ (o : Option (ℕ × Moment)). IsSome o) c.in_ok-next.ensures.value refl

pub returns-clause-value : goal.returns-clause-value
returns-clause-value g c = c.in_ok-next.ensures.value

pub returns-clause-least : goal.returns-clause-least
returns-clause-least g c = c.first.ensures.least

pub returns-clause-rest : goal.returns-clause-rest
returns-clause-rest g c = c.take_next.ensures.rest ∙ ap (without c.args.self.now.moments) (sym c.in_ok-next.ensures.value)
