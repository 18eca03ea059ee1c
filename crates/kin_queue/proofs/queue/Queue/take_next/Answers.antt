use Rattle.std.proofs.Common.{◌≡◌, ℕ, length, drop, get_or, sym, subst, ◌∙◌, arith}
use Rattle.std.specs.FinMap.{remove, from_entries}
use Rattle.std.specs.Ordering.{nat_cmp}
use Rattle.kin_num.specs.declared.instant.Moment.{Moment}
use Rattle.kin_queue.specs.Cost.{TakesSteps}
use Rattle.kin_queue.specs.Tickets.{entries_of}
use Rattle.kin_queue.specs.Heap.{IsWithFirst}
use Rattle.kin_queue.proofs.Contents.{counted}
use Rattle.kin_queue.proofs.Tickets.{entries_length, ticket_there}
use Rattle.kin_queue.proofs.Root.{next_inside, next_taken}
use Rattle.kin_queue.proofs.Whole.{take_whole}
use Rattle.kin_queue.proofs.queue.Queue.take_next.Goals as goal

pub index-requires : goal.index-requires
index-requires g c =
    let lt = ticket_there c.self.inside.instants c.self.inside.entries.items c.self.inside.next (next_inside (entries_of c.self.inside.instants c.self.inside.entries.items) c.self.inside.next c.args.self.now c.self.view_is c.requires) in
    omega arith

pub take_least-requires-clause-heap : goal.take_least-requires-clause-heap
take_least-requires-clause-heap g c = rw c.deref_mut.ensures.value c.self.invariant.keyed

pub take_least-requires-clause-place : goal.take_least-requires-clause-place
take_least-requires-clause-place g c =
    ticket_there c.self.inside.instants c.self.inside.entries.items c.self.inside.next (next_inside (entries_of c.self.inside.instants c.self.inside.entries.items) c.self.inside.next c.args.self.now c.self.view_is c.requires)

pub take_least-requires-clause-least : goal.take_least-requires-clause-least
take_least-requires-clause-least g c = c.self.invariant.least

pub invariant_of-self : goal.invariant_of-self
invariant_of-self g c =
    let ps = c.take_least.new.places in
    let tied : IsWithFirst (entries_of c.self.inside.instants c.take_least.new.entries.items) c.next_tie-self-inside.result =
    (rw c.deref.ensures.value at c.next_tie-self-inside.ensures) c.self.inside.instants c.take_least.ensures.heap.stamped in
    record {
      keyed = rw (take_whole c.self.inside.places.len ps (drop (length ps) c.self.inside.places.items) (omega arith)) c.take_least.ensures.heap;
      least = tied;
    }

pub returns-clause-rest : goal.returns-clause-rest
returns-clause-rest g c =
    let es = entries_of c.self.inside.instants c.self.inside.entries.items in
    let taken : (d : ℕ × Moment) → from_entries {R = nat_cmp} (entries_of c.self.inside.instants c.take_least.new.entries.items) ≡ remove (from_entries {R = nat_cmp} es) (get_or es c.self.inside.next d).0 = c.take_least.ensures.moments in
    next_taken es c.self.inside.next c.args.self.now c.self.view_is c.requires _ taken

pub returns-clause-cost : goal.returns-clause-cost
returns-clause-cost g c = subst (λ (n : ℕ). TakesSteps n c.args.steps.now c.take_least.new.steps) (sym (entries_length c.self.inside.instants c.self.inside.entries.items) ∙ counted (entries_of c.self.inside.instants c.self.inside.entries.items) c.self.inside.places.items c.self.inside.next c.args.self.now c.self.view_is c.self.invariant.keyed.heap) c.take_least.ensures.cost
