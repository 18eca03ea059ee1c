use Rattle.std.proofs.Common.{ap, ◌∙◌, List, set}
use Rattle.std.specs.Prelude.{Option}
use Rattle.std.proofs.lemmas.List.{map-set}
use Rattle.kin_motion.specs.declared.fact.Fact.{Fact}
use Rattle.kin_tourney.proofs.report.Facts.set.Goals as goal

pub returns : goal.returns
returns g c =
    map-set g.K.Keyed.fact_of c.self.inside.briefs.items c.args.node c.args.brief ∙ ap (λ (l : List (Option Fact)). set l c.args.node (g.K.Keyed.fact_of c.args.brief)) c.self.view_is
