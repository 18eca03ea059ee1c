use Rattle.std.proofs.Common.{sym, ap, subst, set}
use Rattle.kin_tourney.specs.declared.doubt.Doubt.TheVariants.{Here}
use Rattle.kin_tourney.specs.Standings.{Standings, IsTree}
use Rattle.kin_tourney.proofs.Trees.{tree_raised}
use Rattle.kin_tourney.proofs.tree.Tree.raise.Goals as goal

pub returns-clause-tree : goal.returns-clause-tree
returns-clause-tree g c =
    subst (λ (t : Standings g.row.K-Item.Denot). IsTree (record t { doubts = set t.doubts c.args.node Here })) (sym c.self.view_is) (tree_raised c.args.self.now c.requires.tree c.args.node c.requires.inner c.requires.doubted)

pub returns-clause-same : goal.returns-clause-same
returns-clause-same g c = ap (λ (t : Standings g.row.K-Item.Denot). record t { doubts = set t.doubts c.args.node Here }) c.self.view_is
