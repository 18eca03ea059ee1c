use Rattle.std.proofs.Common.{sym, subst, true}
use Rattle.kin_cases.specs.Contests.{IsHeld}
use Rattle.kin_cases.proofs.Held.{held_at_first}
use Rattle.kin_cases.proofs.contest.Contest.new.Goals as goal

pub invariant_of-result : goal.invariant_of-result
invariant_of-result c =
    subst (IsHeld c.args.size c.args.motions c.in_ok-slots.slots.items c.in_ok-marks.marks.items true) (sym c.new-tourney.ensures)
    (held_at_first c.args.size c.args.motions c.in_ok-slots.slots.items c.in_ok-marks.marks.items c.in_ok-new.field-0 c.requires.high c.in_ok-new.ensures.size c.in_ok-new.ensures.slots c.in_ok-new.ensures.marked c.in_ok-new.ensures.rest c.in_ok-slots.ensures c.in_ok-marks.ensures)
