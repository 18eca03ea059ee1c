use Rattle.std.proofs.Common.{sym, ◌∙◌, subst, ap, arith, ◌/◌, set, ℕ, List}
use Rattle.std.specs.Prelude.{Option}
use Rattle.kin_motion.specs.declared.fact.Fact.{Fact}
use Rattle.kin_tourney.specs.declared.doubt.Doubt.TheVariants.{Here}
use Rattle.kin_tourney.specs.Standings.{Standings, IsTree, best_in}
use Rattle.kin_tourney.specs.Repairs.{IsReplayed}
use Rattle.kin_tourney.proofs.Entries.{match_under, match_low}
use Rattle.kin_tourney.proofs.Rechecks.{replayed_same, replayed_other, same_winner}
use Rattle.kin_tourney.proofs.Trees.{tree_replayed, tree_retold}
use Rattle.kin_tourney.proofs.tree.Tree.replay.Goals as goal

pub set-requires-clause-low : goal.set-requires-clause-low
set-requires-clause-low g c =
    match_low (g.K.Keyed.key c.args.key.now) (g.O.Signs.scene c.args.now.now).sign c.args.self.now c.requires.tree c.args.node c.requires.root c.requires.inner c.in_ok-best.best (ap (λ (p : Option ℕ × Option Fact). p.0) c.in_ok-best.ensures.value)

pub returns-then-ne-clause-tree : goal.returns-then-ne-clause-tree
returns-then-ne-clause-tree g c =
    let key = g.K.Keyed.key c.args.key.now in
    let sign = (g.O.Signs.scene c.args.now.now).sign in
    let told = c.play.new.self in
    let best = c.in_ok-best.best in
    let kept = tree_replayed c.args.self.now c.requires.tree c.args.node c.requires.root c.requires.inner c.requires.doubted best told.facts c.play.ensures.room
    (λ i e. match_under key sign c.args.self.now c.requires.tree c.args.node i c.requires.root c.requires.inner (ap (λ (p : Option ℕ × Option Fact). p.0) (sym c.in_ok-best.ensures.value) ∙ e)) in
    let here = subst (λ (t : Standings g.row.K-Item.Denot). IsTree (record t { best = set t.best c.args.node best; doubts = set t.doubts (c.args.node / 2) Here })) (sym c.play.ensures.same) kept in
    subst (λ (b : List (Option ℕ)). IsTree {Item = g.row.K-Item.Denot} (record { size = c.self.inside.size; items = c.self.inside.items.items; marked = c.self.inside.marked.items; best = b; facts = c.self.inside.facts; doubts = set c.self.inside.doubts.items (c.args.node / 2) Here })) (sym c.set.ensures)
    (subst (λ (t : Standings g.row.K-Item.Denot). IsTree (record t { best = set t.best c.args.node best; doubts = set t.doubts (c.args.node / 2) Here })) (sym c.self.view_is) here)

pub returns-in_err-best-clause-tree : goal.returns-in_err-best-clause-tree
returns-in_err-best-clause-tree g c = tree_retold c.args.self.now c.play.new.self c.requires.tree c.play.ensures.same c.play.ensures.room

pub returns-else-ne-clause-tree : goal.returns-else-ne-clause-tree
returns-else-ne-clause-tree g c = tree_retold c.args.self.now c.play.new.self c.requires.tree c.play.ensures.same c.play.ensures.room

pub returns-then-ne-clause-replayed : goal.returns-then-ne-clause-replayed
returns-then-ne-clause-replayed g c =
    let key = g.K.Keyed.key c.args.key.now in
    let sign = (g.O.Signs.scene c.args.now.now).sign in
    let best = c.in_ok-best.best in
    let told = c.in_ok-best.ensures in
    subst (λ (b : List (Option ℕ)). IsReplayed {Item = g.row.K-Item.Denot} key sign c.args.node c.args.self.now (record { size = c.self.inside.size; items = c.self.inside.items.items; marked = c.self.inside.marked.items; best = b; facts = c.self.inside.facts; doubts = set c.self.inside.doubts.items (c.args.node / 2) Here }) c.args.out.now c.play.new.out) (sym c.set.ensures)
    (subst (λ (t : Standings g.row.K-Item.Denot). IsReplayed key sign c.args.node c.args.self.now (record t { best = set t.best c.args.node best; doubts = set t.doubts (c.args.node / 2) Here }) c.args.out.now c.play.new.out) (sym c.self.view_is)
    (replayed_other key sign c.args.node c.args.self.now c.play.new.self c.args.out.now c.play.new.out best told.same told.value told.facts told.reported (omega (arith, c.requires.inner, c.requires.tree.best_room))))

pub returns-else-ne-clause-replayed : goal.returns-else-ne-clause-replayed
returns-else-ne-clause-replayed g c =
    let key = g.K.Keyed.key c.args.key.now in
    let sign = (g.O.Signs.scene c.args.now.now).sign in
    let best = c.in_ok-best.best in
    let told = c.in_ok-best.ensures in
    let stood = same_winner best c.get.result c.ne.result c.if-ne.false c.ne.ensures ∙ c.get.ensures ∙ ap (λ (t : Standings g.row.K-Item.Denot). best_in t.best c.args.node) c.self.view_is in
    replayed_same key sign c.args.node c.args.self.now c.play.new.self c.args.out.now c.play.new.out best told.same told.value told.facts told.reported stood
