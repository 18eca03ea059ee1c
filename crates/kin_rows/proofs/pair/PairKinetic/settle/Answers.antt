use Rattle.std.proofs.lemmas.Result.{on_ok_weaker}
use Rattle.kin_algebra.proofs.Results.{on_ok}
use Rattle.kin_rows.specs.PairLaws.{pair_settled}
use Rattle.kin_rows.proofs.Ordered.{pair_changed}
use Rattle.kin_rows.proofs.pair.PairKinetic.settle.Goals as goal

pub returns-clause-settled : goal.returns-clause-settled
returns-clause-settled g c =
    on_ok c.report-2.result
    (pair_settled (g.O.Signs.scene c.args.now.now) (record { by_x = c.ordered-self.result; by_y = c.ordered-self-2.result }) c.requires.real c.ordered-self.ensures.order c.ordered-self.ensures.sign c.ordered-self-2.ensures.order c.ordered-self-2.ensures.sign)

pub returns-clause-delta : goal.returns-clause-delta
returns-clause-delta g c =
    on_ok_weaker c.report-2.result
    (λ h. pair_changed c.args.self.now (record { by_x = c.ordered-self.result; by_y = c.ordered-self-2.result }) _ _ _ _ c.args.out.now c.report.new.out c.report-2.new.out
    c.fact_along-old_x.ensures c.fact_along.ensures c.fact_along-old_y.ensures c.fact_along-2.ensures c.in_ok-report.ensures h)
    c.report-2.ensures
