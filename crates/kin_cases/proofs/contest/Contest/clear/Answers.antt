use Rattle.std.proofs.Common.{sym, subst, rules, ◌<◌, length, true, false}
use Rattle.std.specs.Prelude.{None, slice_set}
use Rattle.kin_cases.specs.Contests.{IsHeld}
use Rattle.kin_cases.proofs.Held.{still_in, held_marked}
use Rattle.kin_cases.proofs.contest.Contest.clear.Goals as goal

pub invariant_of-self : goal.invariant_of-self
invariant_of-self c =
    let slots = c.self.inside.slots.items in
    let marks = c.self.inside.marks.items in
    let within : c.args.slot < length slots = search rules in
    let still = still_in slots c.args.slot within in
    subst (IsHeld c.self.inside.size c.self.inside.motions (slice_set slots c.args.slot None) (slice_set marks c.args.slot true) false) (sym c.clear.ensures)
    (held_marked c.self.inside.size c.args.slot None c.self.inside.motions slots marks c.self.inside.is_settled c.self.inside.tourney c.clear.new.self.winners c.self.invariant
    (λ i j a e f. c.self.invariant.apart i j a (still i a e) (still j a f))
    (λ i a e. c.self.invariant.live i a (still i a e)))
