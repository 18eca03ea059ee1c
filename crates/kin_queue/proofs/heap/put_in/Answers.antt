use Rattle.std.proofs.Common.{◌≡◌, ◌⊎◌, ◌↔◌, inl, inr, ℕ, [], ◌∷◌, ◌++◌, length, drop, sym, ◌∙◌, arith}
use Rattle.std.specs.FinMap.{get-from_entries}
use Rattle.std.proofs.lemmas.Cmp.{nat_cmp_total}
use Rattle.kin_num.specs.declared.instant.Moment.{Moment}
use Rattle.kin_queue.specs.Tickets.{entry_of, entries_of}
use Rattle.kin_queue.specs.Hole.{Stands, StandsOutside}
use Rattle.kin_queue.proofs.Opening.{open_in, outside_end}
use Rattle.kin_queue.proofs.Contents.{heap_apart, moments_inserted}
use Rattle.kin_queue.proofs.Costs.{taken}
use Rattle.kin_queue.proofs.Whole.{take_whole}
use Rattle.kin_queue.proofs.heap.put_in.Goals as goal

pub lift-requires-clause-open : goal.lift-requires-clause-open
lift-requires-clause-open g c =
    let ms = c.args.instants.now in
    let ts = c.args.entries.now.items in
    let end : c.len-end.result ≡ length c.args.entries.now.items = omega arith in
    rw (c.deref_mut.ensures.value, c.push_reserved.ensures.items, end)
    (open_in ms ts c.args.entry c.args.places.now c.requires.heap (sym (get-from_entries nat_cmp_total (entries_of ms ts) c.args.entry.id) ∙ c.requires.absent) c.requires.stamped c.requires.known c.requires.few)

pub returns-clause-moments : goal.returns-clause-moments
returns-clause-moments g c =
    let ms = c.args.instants.now in
    let ts = c.args.entries.now.items in
    let t = c.args.entry in
    let end : c.len-end.result ≡ length c.args.entries.now.items = omega arith in
    let stands : (e : ℕ × Moment) → Stands (entries_of c.args.instants.now c.lift.new.entries) e ↔ ((e ≡ entry_of c.args.instants.now c.args.entry) ⊎ StandsOutside (entries_of c.args.instants.now (c.args.entries.now.items ++ c.args.entry ∷ [])) (length c.args.entries.now.items) e) =
    rw (c.deref_mut.ensures.value, c.push_reserved.ensures.items, end) at c.lift.ensures.stands in
    rw (take_whole c.push_reserved.new.self.len c.lift.new.entries (drop (length c.lift.new.entries) c.push_reserved.new.self.items) (omega arith))
    (moments_inserted (entries_of ms ts) (entries_of ms c.lift.new.entries) (entry_of ms t) (heap_apart (entries_of ms ts) c.args.places.now c.requires.heap.heap) (heap_apart (entries_of ms c.lift.new.entries) c.lift.new.places c.lift.ensures.heap.heap)
    (λ e. (
      λ s. elim ((stands e).0 s) [ inl u ↦ inl u | inr o ↦ inr ((outside_end ms ts t e).0 o) ],
      λ s. (stands e).1 (elim s [ inl u ↦ inl u | inr o ↦ inr ((outside_end ms ts t e).1 o) ]),
    )))

pub returns-clause-heap : goal.returns-clause-heap
returns-clause-heap g c =
    let us = c.lift.new.entries in
    rw (take_whole c.push_reserved.new.self.len us (drop (length us) c.push_reserved.new.self.items) (omega arith)) c.lift.ensures.heap

pub returns-clause-cost : goal.returns-clause-cost
returns-clause-cost g c = taken _ _ _ _ c.lift.ensures.cost (omega arith)
