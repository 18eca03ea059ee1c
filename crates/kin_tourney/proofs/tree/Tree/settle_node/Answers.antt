use Rattle.std.proofs.Common.{sym, ◌∙◌, subst, ap, set, length}
use Rattle.kin_tourney.specs.declared.doubt.Doubt.TheVariants.{Clear}
use Rattle.kin_tourney.specs.Standings.{Standings, IsTree}
use Rattle.kin_tourney.proofs.Trees.{odd_room, perfect, tree_cleared}
use Rattle.kin_tourney.proofs.tree.Tree.settle_node.Goals as goal

pub unmark_below-requires-clause-even : goal.unmark_below-requires-clause-even
unmark_below-requires-clause-even g c = λ e. odd_room c.args.self.now.doubts (perfect c.args.self.now c.requires.tree) c.args.node c.requires.root (c.requires.tree.doubts_room ∙ sym c.requires.tree.marked_room ∙ sym (ap (λ (t : Standings g.row.K-Item.Denot). length t.marked) c.self.view_is) ∙ e)

pub returns-clause-tree : goal.returns-clause-tree
returns-clause-tree g c =
    let kept = tree_cleared c.args.self.now c.requires.tree c.args.node c.requires.root c.requires.inner c.requires.halves c.unmark_below.new.marked.items (c.unmark_below.ensures.room ∙ ap (λ (t : Standings g.row.K-Item.Denot). length t.marked) c.self.view_is) in
    subst (λ (t : Standings g.row.K-Item.Denot). IsTree (record t { marked = c.unmark_below.new.marked.items; doubts = set t.doubts c.args.node Clear })) (sym c.self.view_is) kept
