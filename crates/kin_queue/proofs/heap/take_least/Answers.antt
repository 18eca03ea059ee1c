use Rattle.std.proofs.Common.{◌≡◌, ◌⊎◌, ◌↔◌, ℕ, ◌<◌, List, [], ◌∷◌, ◌++◌, length, drop, subst, arith}
use Rattle.kin_num.specs.declared.instant.Moment.{Moment}
use Rattle.kin_queue.specs.declared.ticket.Ticket.{Ticket}
use Rattle.kin_queue.specs.Tickets.{entry_of, entries_of}
use Rattle.kin_queue.specs.Heap.{IsKeyed, IsWithFirst}
use Rattle.kin_queue.specs.Hole.{Stands, StandsOutside}
use Rattle.kin_queue.proofs.Opening.{keyed_front, open_out, fits_below_tied}
use Rattle.kin_queue.proofs.Taking.{last_taken, other_taken}
use Rattle.kin_queue.proofs.Costs.{none_taken, taken}
use Rattle.kin_queue.proofs.Whole.{take_whole}
use Rattle.kin_queue.proofs.heap.take_least.Goals as goal

pub returns-then-place-end-clause-heap : goal.returns-then-place-end-clause-heap
returns-then-place-end-clause-heap g c =
    keyed_front c.args.instants.now c.take_last-last.new.self.items c.take_last-last.result c.args.places.now (subst (λ (l : List Ticket). IsKeyed c.args.instants.now l c.args.places.now) c.take_last-last.ensures.items c.requires.heap)

pub returns-then-place-end-clause-moments : goal.returns-then-place-end-clause-moments
returns-then-place-end-clause-moments g c = λ d.
    let keyed : IsKeyed c.args.instants.now (c.take_last-last.new.self.items ++ c.take_last-last.result ∷ []) c.args.places.now = subst (λ (l : List Ticket). IsKeyed c.args.instants.now l c.args.places.now) c.take_last-last.ensures.items c.requires.heap in
    rw c.take_last-last.ensures.items (last_taken c.args.instants.now c.take_last-last.new.self.items c.take_last-last.result c.args.places.now keyed c.args.place (omega arith) d)

pub lower-requires-clause-open : goal.lower-requires-clause-open
lower-requires-clause-open g c =
    let keyed : IsKeyed c.args.instants.now (c.take_last-last.new.self.items ++ c.take_last-last.result ∷ []) c.args.places.now = subst (λ (l : List Ticket). IsKeyed c.args.instants.now l c.args.places.now) c.take_last-last.ensures.items c.requires.heap in
    let inside : c.args.place < length (c.take_last-last.new.self.items ++ c.take_last-last.result ∷ []) = subst (λ (l : List Ticket). c.args.place < length l) c.take_last-last.ensures.items c.requires.place in
    rw c.deref_mut.ensures.value (open_out c.args.instants.now c.take_last-last.new.self.items c.take_last-last.result c.args.places.now keyed c.args.place (omega arith))

pub lower-requires-clause-above : goal.lower-requires-clause-above
lower-requires-clause-above g c =
    let keyed : IsKeyed c.args.instants.now (c.take_last-last.new.self.items ++ c.take_last-last.result ∷ []) c.args.places.now = subst (λ (l : List Ticket). IsKeyed c.args.instants.now l c.args.places.now) c.take_last-last.ensures.items c.requires.heap in
    let inside : c.args.place < length (c.take_last-last.new.self.items ++ c.take_last-last.result ∷ []) = subst (λ (l : List Ticket). c.args.place < length l) c.take_last-last.ensures.items c.requires.place in
    let least : IsWithFirst (entries_of c.args.instants.now (c.take_last-last.new.self.items ++ c.take_last-last.result ∷ [])) c.args.place = subst (λ (l : List Ticket). IsWithFirst (entries_of c.args.instants.now l) c.args.place) c.take_last-last.ensures.items c.requires.least in
    rw c.deref_mut.ensures.value (fits_below_tied c.args.instants.now c.take_last-last.new.self.items c.take_last-last.result c.args.places.now keyed c.args.place (omega arith) least)

pub returns-clause-moments : goal.returns-clause-moments
returns-clause-moments g c = λ d.
    let ts = c.take_last-last.new.self.items in
    let us = c.lower.new.entries in
    let keyed : IsKeyed c.args.instants.now (c.take_last-last.new.self.items ++ c.take_last-last.result ∷ []) c.args.places.now = subst (λ (l : List Ticket). IsKeyed c.args.instants.now l c.args.places.now) c.take_last-last.ensures.items c.requires.heap in
    let stands : (e : ℕ × Moment) → Stands (entries_of c.args.instants.now c.lower.new.entries) e ↔ ((e ≡ entry_of c.args.instants.now c.take_last-last.result) ⊎ StandsOutside (entries_of c.args.instants.now c.take_last-last.new.self.items) c.args.place e) = rw c.deref_mut.ensures.value at c.lower.ensures.stands in
    rw (take_whole c.take_last-last.new.self.len us (drop (length us) ts) (omega arith), c.take_last-last.ensures.items)
    (other_taken c.args.instants.now ts c.take_last-last.result c.args.places.now keyed c.args.place (omega arith) us c.lower.new.places c.lower.ensures.heap stands d)

pub returns-then-place-end-clause-cost : goal.returns-then-place-end-clause-cost
returns-then-place-end-clause-cost g c = none_taken _ _

pub returns-clause-heap : goal.returns-clause-heap
returns-clause-heap g c =
    let us = c.lower.new.entries in
    rw (take_whole c.take_last-last.new.self.len us (drop (length us) c.take_last-last.new.self.items) (omega arith)) c.lower.ensures.heap

pub returns-clause-cost : goal.returns-clause-cost
returns-clause-cost g c = taken _ _ _ _ c.lower.ensures.cost (omega arith)
