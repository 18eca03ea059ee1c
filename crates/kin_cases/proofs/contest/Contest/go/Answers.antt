use Rattle.kin_cases.proofs.Held.{held_after, held_ready}
use Rattle.kin_cases.proofs.contest.Contest.go.Goals as goal

pub settle-requires-clause-ready : goal.settle-requires-clause-ready
settle-requires-clause-ready g c =
    let i = c.self.inside in
    held_ready i.size i.motions i.slots.items i.marks.items i.is_settled i.tourney c.args.moment.now c.self.invariant

pub invariant_of-result : goal.invariant_of-result
invariant_of-result g c =
    let stays = c.in_ok-tourney.ensures.stays in
    held_after c.self.inside.size c.self.inside.motions c.self.inside.slots.items c.self.inside.marks.items c.in_ok-marks.marks.items c.self.inside.is_settled c.self.inside.tourney c.in_ok-tourney.tourney
    c.self.invariant stays.size stays.slots stays.room c.in_ok-tourney.ensures.rest c.in_ok-marks.ensures
