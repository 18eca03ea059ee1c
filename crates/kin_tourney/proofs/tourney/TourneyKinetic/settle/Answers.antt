use Rattle.std.proofs.Common.{rules}
use Rattle.kin_tourney.proofs.Settled.{some_slots, parts_low, doubtful_now, last}
use Rattle.kin_tourney.proofs.tourney.TourneyKinetic.settle.Goals as goal

pub doubt_failed-requires-clause-inner : goal.doubt_failed-requires-clause-inner
doubt_failed-requires-clause-inner g c = parts_low _ _ _ _ _ _ _ c.self.invariant c.self.view_is c.requires.ready _ c.requires.failing.only

pub is_untouched-all-requires-clause-some : goal.is_untouched-all-requires-clause-some
is_untouched-all-requires-clause-some g c = some_slots _ _ _ _ _ _ _ c.self.invariant c.self.view_is c.requires.ready

pub repair-requires-clause-doubtful : goal.repair-requires-clause-doubtful
repair-requires-clause-doubtful g c =
    doubtful_now _ _ _ _ _ _ _ c.self.invariant c.self.view_is c.requires.ready _ _ c.doubt_failed.ensures.tree c.doubt_failed.ensures.same c.doubt_failed.ensures.doubted c.requires.failing c.is_untouched-all.result c.is_untouched-all.ensures.0

pub invariant_of-self-2 : goal.invariant_of-self-2
invariant_of-self-2 g c =
    let all = last _ _ _ _ _ _ _ c.self.invariant c.self.view_is c.requires.ready _ _ c.doubt_failed.ensures.tree c.doubt_failed.ensures.same c.doubt_failed.ensures.doubted
    (g.met.K.Keyed.total c.self.inside.key) (g.met.K.Keyed.transitive c.self.inside.key) c.requires.real _ _ c.in_ok-repair.ensures.same_size c.in_ok-repair.ensures.same_items c.in_ok-repair.ensures.known c.in_ok-repair.ensures.clear in
    all.kept

pub returns : goal.returns
returns g c =
    let all = last _ _ _ _ _ _ _ c.self.invariant c.self.view_is c.requires.ready _ _ c.doubt_failed.ensures.tree c.doubt_failed.ensures.same c.doubt_failed.ensures.doubted
    (g.met.K.Keyed.total c.self.inside.key) (g.met.K.Keyed.transitive c.self.inside.key) c.requires.real _ _ c.in_ok-repair.ensures.same_size c.in_ok-repair.ensures.same_items c.in_ok-repair.ensures.known c.in_ok-repair.ensures.clear in
    record { rest = all.rest; settled = all.settled; delta = search rules; broken = tt; same = search rules; room = search rules; cost = search rules }
