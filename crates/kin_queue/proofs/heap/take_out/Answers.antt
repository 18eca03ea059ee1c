use Rattle.std.proofs.Common.{◌≡◌, ◌⊎◌, ◌↔◌, ℕ, ◌<◌, List, [], ◌∷◌, ◌++◌, length, drop, subst, arith}
use Rattle.kin_num.specs.declared.instant.Moment.{Moment}
use Rattle.kin_queue.specs.declared.ticket.Ticket.{Ticket}
use Rattle.kin_queue.specs.Tickets.{entry_of, entries_of}
use Rattle.kin_queue.specs.Heap.{IsKeyed}
use Rattle.kin_queue.specs.Hole.{Stands, StandsOutside}
use Rattle.kin_queue.proofs.Opening.{keyed_front, open_out}
use Rattle.kin_queue.proofs.Taking.{last_taken, other_taken}
use Rattle.kin_queue.proofs.Costs.{none_taken, taken}
use Rattle.kin_queue.proofs.Whole.{take_whole}
use Rattle.kin_queue.proofs.heap.take_out.Goals as goal

pub returns-then-place-len-clause-heap : goal.returns-then-place-len-clause-heap
returns-then-place-len-clause-heap g c =
    keyed_front c.args.instants.now c.take_last-last.new.self.items c.take_last-last.result c.args.places.now (subst (λ (l : List Ticket). IsKeyed c.args.instants.now l c.args.places.now) c.take_last-last.ensures.items c.requires.heap)

pub returns-then-place-len-clause-moments : goal.returns-then-place-len-clause-moments
returns-then-place-len-clause-moments g c = λ d.
    let keyed : IsKeyed c.args.instants.now (c.take_last-last.new.self.items ++ c.take_last-last.result ∷ []) c.args.places.now = subst (λ (l : List Ticket). IsKeyed c.args.instants.now l c.args.places.now) c.take_last-last.ensures.items c.requires.heap in
    rw c.take_last-last.ensures.items (last_taken c.args.instants.now c.take_last-last.new.self.items c.take_last-last.result c.args.places.now keyed c.args.place (omega arith) d)

pub settle-requires : goal.settle-requires
settle-requires g c =
    let keyed : IsKeyed c.args.instants.now (c.take_last-last.new.self.items ++ c.take_last-last.result ∷ []) c.args.places.now = subst (λ (l : List Ticket). IsKeyed c.args.instants.now l c.args.places.now) c.take_last-last.ensures.items c.requires.heap in
    let inside : c.args.place < length (c.take_last-last.new.self.items ++ c.take_last-last.result ∷ []) = subst (λ (l : List Ticket). c.args.place < length l) c.take_last-last.ensures.items c.requires.place in
    rw c.deref_mut.ensures.value (open_out c.args.instants.now c.take_last-last.new.self.items c.take_last-last.result c.args.places.now keyed c.args.place (omega arith))

pub returns-clause-moments : goal.returns-clause-moments
returns-clause-moments g c = λ d.
    let ts = c.take_last-last.new.self.items in
    let us = c.settle.new.entries in
    let keyed : IsKeyed c.args.instants.now (c.take_last-last.new.self.items ++ c.take_last-last.result ∷ []) c.args.places.now = subst (λ (l : List Ticket). IsKeyed c.args.instants.now l c.args.places.now) c.take_last-last.ensures.items c.requires.heap in
    let stands : (e : ℕ × Moment) → Stands (entries_of c.args.instants.now c.settle.new.entries) e ↔ ((e ≡ entry_of c.args.instants.now c.take_last-last.result) ⊎ StandsOutside (entries_of c.args.instants.now c.take_last-last.new.self.items) c.args.place e) = rw c.deref_mut.ensures.value at c.settle.ensures.stands in
    rw (take_whole c.take_last-last.new.self.len us (drop (length us) ts) (omega arith), c.take_last-last.ensures.items)
    (other_taken c.args.instants.now ts c.take_last-last.result c.args.places.now keyed c.args.place (omega arith) us c.settle.new.places c.settle.ensures.heap stands d)

pub returns-then-place-len-clause-cost : goal.returns-then-place-len-clause-cost
returns-then-place-len-clause-cost g c = none_taken _ _

pub returns-clause-heap : goal.returns-clause-heap
returns-clause-heap g c =
    let us = c.settle.new.entries in
    rw (take_whole c.take_last-last.new.self.len us (drop (length us) c.take_last-last.new.self.items) (omega arith)) c.settle.ensures.heap

pub returns-clause-cost : goal.returns-clause-cost
returns-clause-cost g c = taken _ _ _ _ c.settle.ensures.cost (omega arith)
