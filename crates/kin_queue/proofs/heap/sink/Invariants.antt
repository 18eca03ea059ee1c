use Rattle.std.proofs.Common.{◌+◌, ◌*◌, ◌-◌, length}
use Rattle.kin_queue.specs.Tickets.{entry_of, entries_of, AreStamped}
use Rattle.kin_queue.specs.Hole.{RisesWithin, FitsBelow, HasMoved}
use Rattle.kin_queue.proofs.heap.sink.Given as goal

abbrev pub invariant-levels : goal.invariant-levels
invariant-levels g l = record {
  moved : HasMoved (entry_of l.instants l.entry) (entries_of l.instants l.initial.entries) l.start (entries_of l.instants l.entries) l.places l.hole;
  stamped : AreStamped l.instants l.entries;
  above : FitsBelow (entries_of l.instants l.entries) l.hole (entry_of l.instants l.entry);
  cost : RisesWithin ((l.start + 1) * (l.start + 1)) ((l.hole + 1) * (l.hole + 1)) l.initial.steps l.steps;
}

abbrev pub decreases-levels : goal.decreases-levels
decreases-levels g l = length l.initial.entries - l.hole
