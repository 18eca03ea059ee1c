use Rattle.std.proofs.Common.{◌∙◌, ap}
use Rattle.kin_tourney.specs.Standings.{Standings, best_in}
use Rattle.kin_tourney.proofs.Trees.{named_low}
use Rattle.kin_tourney.proofs.tree.Tree.named.Goals as goal

pub returns-then-node-slots-clause-low : goal.returns-then-node-slots-clause-low
returns-then-node-slots-clause-low g c =
    named_low c.args.self.now c.requires.tree c.args.node c.get.result (c.get.ensures ∙ ap (λ (t : Standings g.row.K-Item.Denot). best_in t.best c.args.node) c.self.view_is)
