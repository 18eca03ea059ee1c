use Rattle.std.proofs.Common.{sym}
use Rattle.kin_tracker.proofs.tracker.Tracker.step.Goals as goal

pub returns-in_default-clause-refused : goal.returns-in_default-clause-refused
returns-in_default-clause-refused c =
    let here = (c.is_whole.ensures.whole c.if-not-is_whole.false).whole in
    let later = rw c.now.ensures.value at c.is_earlier.ensures.no c.if-is_earlier.false in
    rw (sym c.self.view_is) ((here, later), c.in_default.ensures.cause)
