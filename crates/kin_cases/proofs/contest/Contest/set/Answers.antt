use Rattle.std.proofs.Common.{◌≢◌, refl, sym, subst, rules, List, ℕ, ◌<◌, length, true, false}
use Rattle.std.specs.Prelude.{Option, Some, slice_set}
use Rattle.kin_motion.specs.Course.{live_of}
use Rattle.kin_motion.specs.Tournaments.{item_in}
use Rattle.kin_cases.specs.Contests.{IsHeld}
use Rattle.kin_cases.proofs.Held.{apart_set, live_set, held_marked}
use Rattle.kin_cases.proofs.contest.Contest.set.Goals as goal

pub invariant_of-self : goal.invariant_of-self
invariant_of-self c =
    let slots = c.self.inside.slots.items in
    let marks = c.self.inside.marks.items in
    let within : c.args.slot < length slots = search rules in
    subst (IsHeld c.self.inside.size c.self.inside.motions (slice_set slots c.args.slot (Some c.args.item)) (slice_set marks c.args.slot true) false) (sym c.set.ensures)
    (held_marked c.self.inside.size c.args.slot (Some c.args.item) c.self.inside.motions slots marks c.self.inside.is_settled c.self.inside.tourney c.set.new.self.winners c.self.invariant
    (apart_set slots c.args.slot c.args.item within (subst (λ (s : List (Option ℕ)). (i : ℕ) → i ≢ c.args.slot → item_in s i ≢ Some c.args.item) c.deref.ensures.value (c.if-holds_elsewhere.ensures refl)) c.self.invariant.apart)
    (live_set slots c.args.slot c.args.item within (live_of c.self.inside.motions) (c.if-not-is_live.ensures.0 refl) c.self.invariant.live))
