use Rattle.std.proofs.Common.{◌≢◌, ◌+◌}
use Rattle.kin_queue.specs.Tickets.{entry_of, entries_of, AreStamped}
use Rattle.kin_queue.specs.Hole.{RisesWithin, FitsAbove, HasMoved}
use Rattle.kin_queue.proofs.heap.rise.Given as goal

abbrev pub invariant-loop-hole : goal.invariant-loop-hole
invariant-loop-hole g l = record {
  moved : HasMoved (entry_of l.instants l.entry) (entries_of l.instants l.initial.entries) l.start (entries_of l.instants l.entries) l.places l.hole;
  stamped : AreStamped l.instants l.entries;
  below : l.hole ≢ l.start → FitsAbove (entries_of l.instants l.entries) l.hole (entry_of l.instants l.entry);
  cost : RisesWithin (l.hole + 1) (l.start + 1) l.initial.steps l.steps;
}

abbrev pub decreases-loop-hole : goal.decreases-loop-hole
decreases-loop-hole g l = l.hole
