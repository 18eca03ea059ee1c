use Rattle.std.proofs.Common.{sym, ap, ◌∙◌, subst, arith, length}
use Rattle.std.specs.Vec.{with_items}
use Rattle.std.proofs.lemmas.List.{with_items_is}
use Rattle.kin_tourney.specs.Standings.{Standings, IsClosed}
use Rattle.kin_tourney.proofs.Trees.{tree_doubted}
use Rattle.kin_tourney.proofs.tree.Tree.doubt_failed.Goals as goal

pub doubt_failed-requires-clause-closed : goal.doubt_failed-requires-clause-closed
doubt_failed-requires-clause-closed g c =
    let was = c.deref_mut.ensures.value ∙ ap (λ (t : Standings g.row.K-Item.Denot). t.doubts) c.self.view_is in
    subst IsClosed (sym was) c.requires.tree.closed

pub doubt_failed-requires-clause-inner : goal.doubt_failed-requires-clause-inner
doubt_failed-requires-clause-inner g c = λ k d l.
    let was = c.deref_mut.ensures.value ∙ ap (λ (t : Standings g.row.K-Item.Denot). t.doubts) c.self.view_is in
    omega (arith, ap length was, c.requires.tree.doubts_room, c.requires.inner)

pub returns-in-Some-clause-tree : goal.returns-in-Some-clause-tree
returns-in-Some-clause-tree g c =
    let room = c.doubt_failed.auto.doubts ∙ ap length c.deref_mut.ensures.value in
    rw (with_items_is c.self.inside.doubts c.doubt_failed.new.doubts (c.doubt_failed.auto.doubts ∙ c.deref_mut.ensures.len)) (tree_doubted _ _ c.self.view_is c.requires.tree c.doubt_failed.new.doubts room c.doubt_failed.ensures.closed)

pub returns-in-Some-clause-same : goal.returns-in-Some-clause-same
returns-in-Some-clause-same g c = ap (λ (t : Standings g.row.K-Item.Denot). record t { doubts = (with_items c.self.inside.doubts c.doubt_failed.new.doubts).items }) c.self.view_is

pub returns-in-Some-clause-doubted : goal.returns-in-Some-clause-doubted
returns-in-Some-clause-doubted g c =
    let was = c.deref_mut.ensures.value ∙ ap (λ (t : Standings g.row.K-Item.Denot). t.doubts) c.self.view_is in
    rw (with_items_is c.self.inside.doubts c.doubt_failed.new.doubts (c.doubt_failed.auto.doubts ∙ c.deref_mut.ensures.len), ← was) c.doubt_failed.ensures.doubted

pub returns-in_default-clause-tree : goal.returns-in_default-clause-tree
returns-in_default-clause-tree g c =
    let room = c.doubt_failed.auto.doubts ∙ ap length c.deref_mut.ensures.value in
    rw (with_items_is c.self.inside.doubts c.doubt_failed.new.doubts (c.doubt_failed.auto.doubts ∙ c.deref_mut.ensures.len)) (tree_doubted _ _ c.self.view_is c.requires.tree c.doubt_failed.new.doubts room c.doubt_failed.ensures.closed)

pub returns-in_default-clause-same : goal.returns-in_default-clause-same
returns-in_default-clause-same g c = ap (λ (t : Standings g.row.K-Item.Denot). record t { doubts = (with_items c.self.inside.doubts c.doubt_failed.new.doubts).items }) c.self.view_is

pub returns-in_default-clause-doubted : goal.returns-in_default-clause-doubted
returns-in_default-clause-doubted g c =
    let was = c.deref_mut.ensures.value ∙ ap (λ (t : Standings g.row.K-Item.Denot). t.doubts) c.self.view_is in
    rw (with_items_is c.self.inside.doubts c.doubt_failed.new.doubts (c.doubt_failed.auto.doubts ∙ c.deref_mut.ensures.len), ← was) c.doubt_failed.ensures.doubted
