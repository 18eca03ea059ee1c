use Rattle.std.proofs.Common.{sym, ◌∙◌}
use Rattle.kin_tracker.proofs.tracker.Tracker.first_within.Goals as goal

pub returns-clause-first : goal.returns-clause-first
returns-clause-first c =
    rw (sym c.self.view_is) (record {
      motion = c.in-Some-Some.motion;
      other_motion = c.in-Some-Some.other_motion;
      is = sym c.motion.ensures.value ∙ c.in-Some-Some.is-0;
      other_is = sym c.motion-2.ensures.value ∙ c.in-Some-Some.is-1;
      first = rw c.now-now.ensures.value at c.first_within.ensures;
    })
