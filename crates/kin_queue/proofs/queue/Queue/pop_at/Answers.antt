use Rattle.std.proofs.Common.{subst}
use Rattle.kin_queue.specs.Agenda.{Agenda, IsNext}
use Rattle.kin_queue.specs.Tickets.{entries_of}
use Rattle.kin_queue.proofs.Root.{heap_next}
use Rattle.kin_queue.proofs.queue.Queue.pop_at.Goals as goal

pub returns-then-not-is_of-clause-least : goal.returns-then-not-is_of-clause-least
returns-then-not-is_of-clause-least g c = subst (λ (a : Agenda). IsNext a.moments a.next) c.self.view_is (heap_next (entries_of c.self.inside.instants c.self.inside.entries.items) c.self.inside.places.items c.self.invariant.keyed.heap c.self.inside.next c.self.invariant.least)

pub returns-clause-least : goal.returns-clause-least
returns-clause-least g c = subst (λ (a : Agenda). IsNext a.moments a.next) c.self.view_is (heap_next (entries_of c.self.inside.instants c.self.inside.entries.items) c.self.inside.places.items c.self.invariant.keyed.heap c.self.inside.next c.self.invariant.least)
