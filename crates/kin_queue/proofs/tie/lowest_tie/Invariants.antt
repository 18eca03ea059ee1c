use Rattle.std.proofs.Common.{◌<◌, ◌-◌, length}
use Rattle.kin_queue.specs.declared.instants.Instants.{Instants}
use Rattle.kin_queue.specs.Tickets.{entries_of, AreStamped}
use Rattle.kin_queue.specs.Heap.{IsWithFirst}
use Rattle.kin_queue.proofs.tie.lowest_tie.Given as goal

abbrev pub invariant-levels : goal.invariant-levels
invariant-levels l = record {
  inside : l.place < length l.entries;
  tied : (s : Instants) → AreStamped s l.entries → IsWithFirst (entries_of s l.entries) l.place;
}

abbrev pub decreases-levels : goal.decreases-levels
decreases-levels l = length l.entries - l.place
