use Rattle.std.proofs.Common.{sym, ap, ◌∙◌, subst, arith, length}
use Rattle.std.specs.Vec.{with_items}
use Rattle.std.proofs.lemmas.List.{with_items_is}
use Rattle.kin_tourney.specs.Standings.{Standings, IsClosed}
use Rattle.kin_tourney.proofs.Trees.{tree_doubted}
use Rattle.kin_tourney.proofs.tree.Tree.lead_to.Goals as goal

pub doubt_path-requires-clause-closed : goal.doubt_path-requires-clause-closed
doubt_path-requires-clause-closed g c =
    let was = c.deref_mut.ensures.value ∙ ap (λ (t : Standings g.row.K-Item.Denot). t.doubts) c.self.view_is in
    subst IsClosed (sym was) c.requires.tree.closed

pub doubt_path-requires-clause-node : goal.doubt_path-requires-clause-node
doubt_path-requires-clause-node g c =
    let was = c.deref_mut.ensures.value ∙ ap (λ (t : Standings g.row.K-Item.Denot). t.doubts) c.self.view_is in
    omega (arith, ap length was, c.requires.tree.doubts_room, c.requires.inner)

pub returns-clause-tree : goal.returns-clause-tree
returns-clause-tree g c =
    let room = c.doubt_path.auto.doubts ∙ ap length c.deref_mut.ensures.value in
    rw (with_items_is c.self.inside.doubts c.doubt_path.new.doubts (c.doubt_path.auto.doubts ∙ c.deref_mut.ensures.len)) (tree_doubted _ _ c.self.view_is c.requires.tree c.doubt_path.new.doubts room c.doubt_path.ensures.closed)

pub returns-clause-same : goal.returns-clause-same
returns-clause-same g c = ap (λ (t : Standings g.row.K-Item.Denot). record t { doubts = (with_items c.self.inside.doubts c.doubt_path.new.doubts).items }) c.self.view_is

pub returns-clause-spread : goal.returns-clause-spread
returns-clause-spread g c =
    let was = c.deref_mut.ensures.value ∙ ap (λ (t : Standings g.row.K-Item.Denot). t.doubts) c.self.view_is in
    rw (with_items_is c.self.inside.doubts c.doubt_path.new.doubts (c.doubt_path.auto.doubts ∙ c.deref_mut.ensures.len), ← was) c.doubt_path.ensures.spread
