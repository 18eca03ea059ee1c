use Rattle.std.proofs.Common.{◌≡◌, length}
use Rattle.kin_legs.specs.Filing.{legs_in}
use Rattle.kin_legs.specs.Planning.{IsRising, legs_of, without}
use Rattle.kin_legs.proofs.legs.strike_all.Given as goal

abbrev pub invariant-loop-leg : goal.invariant-loop-leg
invariant-loop-leg l = record {
  rising : IsRising (legs_in l.legs.entries);
  filed : l.queue.items ≡ legs_of l.no (legs_in l.legs.entries);
  others : without l.no (legs_in l.legs.entries) ≡ without l.no (legs_in l.initial.legs.entries);
}

abbrev pub decreases-loop-leg : goal.decreases-loop-leg
decreases-loop-leg l = length l.queue.items
