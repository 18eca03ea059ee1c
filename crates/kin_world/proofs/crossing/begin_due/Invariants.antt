use Rattle.std.proofs.Common.{◌≡◌, ◌≤◌, ◌<◌, ℕ, length}
use Rattle.std.specs.Prelude.{Contains, IsFalse, IsTrue}
use Rattle.kin_world.proofs.Vocabulary.{Flight, HasCrossed, IsReady, Leg, flight_of}
use Rattle.kin_world.proofs.crossing.begin_due.Given as goal

abbrev pub invariant-loop-leg : goal.invariant-loop-leg
invariant-loop-leg g l = record {
  ready : IsReady (flight_of l.upkeep l.legs l.steps);
  begun : (more : ℕ) (start : Flight) → HasCrossed more start (flight_of l.initial.upkeep l.initial.legs l.initial.steps) → HasCrossed more start (flight_of l.upkeep l.legs l.steps);
  moment : l.upkeep.moment ≡ l.initial.upkeep.moment;
  fewer : (k : Leg) → Contains l.legs.legs k → Contains l.initial.legs.legs k;
  shorter : length l.legs.legs ≤ length l.initial.legs.legs;
  some : IsTrue l.some → length l.legs.legs < length l.initial.legs.legs;
  none : IsFalse l.some → l.legs ≡ l.initial.legs;
  keeps : l.upkeep.keeps ≡ l.initial.upkeep.keeps;
}

abbrev pub decreases-loop-leg : goal.decreases-loop-leg
decreases-loop-leg g l = length l.legs.legs
