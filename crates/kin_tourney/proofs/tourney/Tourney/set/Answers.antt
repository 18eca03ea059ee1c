use Rattle.std.proofs.Common.{sym, subst, ◌<◌, ◌^◌}
use Rattle.std.specs.Prelude.{Some}
use Rattle.kin_tourney.specs.Tournament.{Tournament}
use Rattle.kin_tourney.proofs.Settled.{kept_put}
use Rattle.kin_tourney.proofs.tourney.Tourney.set.Goals as goal

pub invariant_of-self : goal.invariant_of-self
invariant_of-self g c =
    let low = subst (λ (t : Tournament g.row.K.Denot g.row.K-Item.Denot). c.args.slot < 2 ^ t.size) (sym c.self.view_is) c.requires in
    kept_put (g.K.Keyed.key c.self.inside.key) c.self.inside.tree c.put.new.self c.self.inside.whole c.args.slot (Some c.args.item) c.self.invariant low c.put.ensures.tree c.put.ensures.same c.put.ensures.spread c.put.ensures.again
