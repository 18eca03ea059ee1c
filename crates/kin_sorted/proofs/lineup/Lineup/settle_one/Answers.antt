use Rattle.std.proofs.Common.{sym, ◌∙◌}
use Rattle.kin_algebra.proofs.Results.{for_ok, at_ok}
use Rattle.kin_sorted.specs.Sorting.{marks_for}
use Rattle.kin_sorted.proofs.WholeLaws.{renewed}
use Rattle.kin_sorted.proofs.lineup.Lineup.settle_one.Goals as goal

pub returns-clause-renewed : goal.returns-clause-renewed
returns-clause-renewed g c = for_ok c.report.result _ (λ v ok.
    let s = g.O.Signs.scene c.args.now.now in
    let law = g.met.R.Ranked.law c.args.rank.now in
    let n = c.arrange_one.new.self in
    let told = c.report.ensures in
    renewed s (g.R.Ranked.ranks c.args.rank.now) law (law.strict s c.requires.real) (marks_for c.args.single) c.args.part c.args.self.now.row n.row c.report.new.row n.touched.items _ n.swaps.items
    c.args.failed.now c.args.steps.now c.arrange_one.new.steps c.args.out.now c.report.new.out c.requires.marks c.requires.held c.requires.failing c.in_ok-arrange_one.ensures.arranged
    c.in_ok-arrange_one.ensures.links told.same told.length (n.linked ∙ sym n.signed) c.deref.ensures.value
    (at_ok c.report.result _ v ok told.touched) (at_ok c.report.result _ v ok told.others) (at_ok c.report.result _ v ok told.told))
