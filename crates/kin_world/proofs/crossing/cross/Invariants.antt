use Rattle.std.proofs.Common.{◌≡◌, length}
use Rattle.kin_world.proofs.Vocabulary.{AreAhead, HasCrossed, IsEarlier, flight_of, two_a_leg}
use Rattle.kin_world.proofs.crossing.cross.Given as goal

abbrev pub invariant-loop-due : goal.invariant-loop-due
invariant-loop-due g l = record {
  crossed : HasCrossed (two_a_leg (flight_of l.initial.upkeep l.initial.legs l.initial.steps) (flight_of l.upkeep l.legs l.steps)) (flight_of l.initial.upkeep l.initial.legs l.initial.steps) (flight_of l.upkeep l.legs l.steps);
  ahead : AreAhead l.upkeep.moment l.legs.legs;
  later : ¬ (IsEarlier l.initial.limit l.upkeep.moment);
  keeps : l.upkeep.keeps ≡ l.initial.upkeep.keeps;
}

abbrev pub decreases-loop-due : goal.decreases-loop-due
decreases-loop-due g l = length l.legs.legs
