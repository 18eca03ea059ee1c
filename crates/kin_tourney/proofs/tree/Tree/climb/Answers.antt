use Rattle.std.proofs.Common.{ap, ◌∙◌, length}
use Rattle.kin_tourney.specs.Standings.{Standings}
use Rattle.kin_tourney.proofs.Climbing.{written_back}
use Rattle.kin_tourney.proofs.tree.Tree.climb.Goals as goal

pub returns-clause-climbed : goal.returns-clause-climbed
returns-clause-climbed g c =
    let same = ap (λ (t : Standings g.row.K-Item.Denot). t.doubts) c.self.view_is in
    written_back c.args.all c.self.inside.doubts.len c.deref_mut.result.now c.args.self.now.doubts c.pass_up.new.doubts _ c.args.node c.pass_up.result c.if-all.false (c.deref_mut.ensures.value ∙ same) c.pass_up.ensures.room (c.self.inside.doubts.ok.0 ∙ ap length same) c.pass_up.ensures.climbed
