use Rattle.std.proofs.Common.{sym, ◌∙◌}
use Rattle.std.proofs.lemmas.Bool.{both_ways, not-true, not-false}
use Rattle.kin_overlay.proofs.StandingLaws.{unfailed}
use Rattle.kin_overlay.proofs.standing.Standing.is_unfailed.Goals as goal

pub returns-then-has_failed-clause-otherwise : goal.returns-then-has_failed-clause-otherwise
returns-then-has_failed-clause-otherwise c = λ t u. let one = c.has_failed.ensures.some c.if-has_failed.true in u.not_failed one.0 one.1 one.2

pub returns-clause-yes : goal.returns-clause-yes
returns-clause-yes c = λ t. unfailed _ _ _ (c.has_failed.ensures.none c.if-has_failed.false) (sym c.names_gone.ensures ∙ not-true c.names_gone.result t)

pub returns-clause-otherwise : goal.returns-clause-otherwise
returns-clause-otherwise c = λ t u. absurd (both_ways c.names_gone.result (c.names_gone.ensures ∙ u.not_named) (not-false c.names_gone.result t))
