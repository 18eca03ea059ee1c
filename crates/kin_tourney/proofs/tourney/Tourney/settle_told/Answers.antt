use Rattle.std.proofs.Common.{rules}
use Rattle.kin_tourney.proofs.Settled.{parts_low, doubtful_of_told, last}
use Rattle.kin_tourney.proofs.tourney.Tourney.settle_told.Goals as goal

pub doubt_failed-requires-clause-inner : goal.doubt_failed-requires-clause-inner
doubt_failed-requires-clause-inner g c = parts_low _ _ _ _ _ _ _ c.self.invariant c.self.view_is c.requires.ready _ c.requires.failing.only

pub repair-requires-clause-doubtful : goal.repair-requires-clause-doubtful
repair-requires-clause-doubtful g c =
    doubtful_of_told _ _ _ _ _ _ _ c.self.invariant c.self.view_is c.requires.ready _ _ c.doubt_failed.ensures.tree c.doubt_failed.ensures.same c.doubt_failed.ensures.doubted (g.met.K.Keyed.askable c.self.inside.key) c.requires.failing

pub invariant_of-self-2 : goal.invariant_of-self-2
invariant_of-self-2 g c =
    let all = last _ _ _ _ _ _ _ c.self.invariant c.self.view_is c.requires.ready _ _ c.doubt_failed.ensures.tree c.doubt_failed.ensures.same c.doubt_failed.ensures.doubted
    (g.met.K.Keyed.total c.self.inside.key) (g.met.K.Keyed.transitive c.self.inside.key) c.requires.real _ _ c.in_ok-repair.ensures.same_size c.in_ok-repair.ensures.same_items c.in_ok-repair.ensures.known c.in_ok-repair.ensures.clear in
    all.kept

pub returns : goal.returns
returns g c =
    let all = last _ _ _ _ _ _ _ c.self.invariant c.self.view_is c.requires.ready _ _ c.doubt_failed.ensures.tree c.doubt_failed.ensures.same c.doubt_failed.ensures.doubted
    (g.met.K.Keyed.total c.self.inside.key) (g.met.K.Keyed.transitive c.self.inside.key) c.requires.real _ _ c.in_ok-repair.ensures.same_size c.in_ok-repair.ensures.same_items c.in_ok-repair.ensures.known c.in_ok-repair.ensures.clear in
    record { rest = all.rest; settled = all.settled; delta = search rules; broken = tt; same = search rules; room = search rules; cost = search rules }
