use Rattle.std.proofs.Common.{◌≡◌, ℕ, List, length, drop, sym, ap, subst, ◌∙◌, arith}
use Rattle.std.specs.Ordering.{nat_cmp}
use Rattle.std.specs.FinMap.{get, insert, from_entries}
use Rattle.kin_algebra.proofs.Results.{on_err}
use Rattle.kin_queue.specs.Agenda.{Agenda}
use Rattle.kin_queue.specs.Cost.{TakesSteps}
use Rattle.kin_queue.specs.Tickets.{entries_of, moment_in}
use Rattle.kin_queue.specs.declared.ticket.Ticket.{Ticket}
use Rattle.kin_queue.specs.Heap.{agenda_of}
use Rattle.kin_queue.proofs.Contents.{counted}
use Rattle.kin_queue.proofs.Tickets.{entries_length}
use Rattle.kin_queue.proofs.Noting.{led_on, agenda_before, same_insert, moment_noted, stamped_on}
use Rattle.kin_queue.proofs.Opening.{led_within}
use Rattle.kin_queue.proofs.Costs.{none_taken}
use Rattle.kin_queue.proofs.Root.{with_itself}
use Rattle.kin_queue.proofs.Whole.{take_whole}
use Rattle.kin_queue.proofs.queue.Queue.insert.Goals as goal

pub returns-in_default-clause-cost : goal.returns-in_default-clause-cost
returns-in_default-clause-cost g c = none_taken _ _

pub invariant_of-self : goal.invariant_of-self
invariant_of-self g c = rw c.reserve.ensures.items c.self.invariant

pub returns-in_err-reserve-clause-err : goal.returns-in_err-reserve-clause-err
returns-in_err-reserve-clause-err g c = on_err c.from_residual.result (ap (λ (ts : List Ticket). agenda_of (entries_of c.self.inside.instants ts) c.self.inside.next) c.reserve.ensures.items ∙ c.self.view_is)

pub returns-in_err-reserve-clause-cost : goal.returns-in_err-reserve-clause-cost
returns-in_err-reserve-clause-cost g c = none_taken _ _

pub invariant_of-self-in_err-reach : goal.invariant_of-self-in_err-reach
invariant_of-self-in_err-reach g c = rw c.reserve.ensures.items (led_within c.self.inside.instants c.self.inside.entries.items c.self.inside.places.items c.reach.new.list.items c.self.inside.next c.self.invariant c.reach.ensures.kept)

pub returns-in_err-reach-clause-err : goal.returns-in_err-reach-clause-err
returns-in_err-reach-clause-err g c = on_err c.from_residual-in_err-reach.result (ap (λ (ts : List Ticket). agenda_of (entries_of c.self.inside.instants ts) c.self.inside.next) c.reserve.ensures.items ∙ c.self.view_is)

pub returns-in_err-reach-clause-cost : goal.returns-in_err-reach-clause-cost
returns-in_err-reach-clause-cost g c = none_taken _ _

pub invariant_of-self-in_err-note : goal.invariant_of-self-in_err-note
invariant_of-self-in_err-note g c = rw c.reserve.ensures.items (led_on c.self.inside.instants c.note.new.self c.args.id c.note.ensures.kept c.self.inside.entries.items c.self.inside.places.items c.reach.new.list.items c.self.inside.next c.self.invariant c.reach.ensures.kept c.args.self.now c.self.view_is c.requires.absent)

pub returns-in_err-note-clause-err : goal.returns-in_err-note-clause-err
returns-in_err-note-clause-err g c = on_err c.from_residual-in_err-note.result (ap (λ (ts : List Ticket). agenda_of (entries_of c.note.new.self ts) c.self.inside.next) c.reserve.ensures.items ∙ agenda_before c.self.inside.instants c.note.new.self c.args.id c.note.ensures.kept c.self.inside.entries.items c.self.inside.places.items c.reach.new.list.items c.self.inside.next c.self.invariant c.reach.ensures.kept c.args.self.now c.self.view_is c.requires.absent)

pub returns-in_err-note-clause-cost : goal.returns-in_err-note-clause-cost
returns-in_err-note-clause-cost g c = none_taken _ _

pub invariant_of-self-2 : goal.invariant_of-self-2
invariant_of-self-2 g c =
    let ps = c.put_in.new.places in
    record {
      keyed = rw (take_whole c.reach.new.list.len ps (drop (length ps) c.reach.new.list.items) (omega arith)) c.put_in.ensures.heap;
      least = with_itself _;
    }

pub put_in-requires-clause-heap : goal.put_in-requires-clause-heap
put_in-requires-clause-heap g c =
    rw (c.reserve.ensures.items, c.deref_mut.ensures.value)
    (led_on c.self.inside.instants c.note.new.self c.args.id c.note.ensures.kept c.self.inside.entries.items c.self.inside.places.items c.reach.new.list.items c.self.inside.next c.self.invariant c.reach.ensures.kept c.args.self.now c.self.view_is c.requires.absent).keyed

pub put_in-requires-clause-absent : goal.put_in-requires-clause-absent
put_in-requires-clause-absent g c =
    let id : c.new-entry.result.id ≡ c.args.id = c.new-entry.ensures.id ∙ (omega arith) in
    rw (c.reserve.ensures.items, id)
    (ap (λ (a : Agenda). get a.moments c.args.id) (agenda_before c.self.inside.instants c.note.new.self c.args.id c.note.ensures.kept c.self.inside.entries.items c.self.inside.places.items c.reach.new.list.items c.self.inside.next c.self.invariant c.reach.ensures.kept c.args.self.now c.self.view_is c.requires.absent) ∙ c.requires.absent)

pub returns-clause-ok : goal.returns-clause-ok
returns-clause-ok g c =
    let id : c.new-entry.result.id ≡ c.args.id = c.new-entry.ensures.id ∙ (omega arith) in
    let put : from_entries {R = nat_cmp} (entries_of c.note.new.self c.put_in.new.entries.items) ≡ insert (from_entries {R = nat_cmp} (entries_of c.note.new.self c.self.inside.entries.items)) c.new-entry.result.id (moment_in c.note.new.self c.new-entry.result) =
    rw c.reserve.ensures.items at c.put_in.ensures.moments in
    put
    ∙ same_insert _ c.args.self.now.moments c.new-entry.result.id c.args.id (moment_in c.note.new.self c.new-entry.result) c.args.at
    (ap (λ (a : Agenda). a.moments) (agenda_before c.self.inside.instants c.note.new.self c.args.id c.note.ensures.kept c.self.inside.entries.items c.self.inside.places.items c.reach.new.list.items c.self.inside.next c.self.invariant c.reach.ensures.kept c.args.self.now c.self.view_is c.requires.absent))
    id (moment_noted c.note.new.self c.args.id c.args.at c.in_ok-note.ensures.noted c.new-entry.result id c.new-entry.ensures.key)

pub returns-clause-cost : goal.returns-clause-cost
returns-clause-cost g c = subst (λ (n : ℕ). TakesSteps n c.args.steps.now c.put_in.new.steps)
    (ap (λ (l : List Ticket). length l) c.reserve.ensures.items ∙ sym (entries_length c.self.inside.instants c.self.inside.entries.items) ∙ counted (entries_of c.self.inside.instants c.self.inside.entries.items) c.self.inside.places.items c.self.inside.next c.args.self.now c.self.view_is c.self.invariant.keyed.heap) c.put_in.ensures.cost

pub put_in-requires-clause-stamped : goal.put_in-requires-clause-stamped
put_in-requires-clause-stamped g c =
    let id : c.new-entry.result.id ≡ c.args.id = c.new-entry.ensures.id ∙ (omega arith) in
    stamped_on c.note.new.self c.args.id c.args.at c.in_ok-note.ensures.noted c.new-entry.result id c.new-entry.ensures.key c.new-entry.ensures.canonical

pub put_in-requires-clause-known : goal.put_in-requires-clause-known
put_in-requires-clause-known g c =
    let id : c.new-entry.result.id ≡ c.args.id = c.new-entry.ensures.id ∙ (omega arith) in
    rw (c.deref_mut.ensures.value, id) c.in_ok-reach.ensures.reached
