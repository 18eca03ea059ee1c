use Rattle.std.proofs.Common.{inl, inr, ◌+◌, ◌*◌, ◌^◌, ◌≤◌, length, arith}
use Rattle.kin_queue.proofs.Tickets.{ticket_there}
use Rattle.kin_queue.proofs.Steps.{ticket_filled, stands_there}
use Rattle.kin_queue.proofs.Costs.{no_side}
use Rattle.kin_queue.proofs.heap.lower.Goals as goal

pub sink-hole-requires-clause-hollow : goal.sink-hole-requires-clause-hollow
sink-hole-requires-clause-hollow g c = c.requires.open

pub sink-hole-requires-clause-above : goal.sink-hole-requires-clause-above
sink-hole-requires-clause-above g c = c.requires.above

pub put-requires-clause-place : goal.put-requires-clause-place
put-requires-clause-place g c = let h = c.sink-hole in ticket_there c.args.instants.now h.new.entries h.result h.ensures.moved.hollow.within

pub put-requires-clause-few : goal.put-requires-clause-few
put-requires-clause-few g c = let f = c.requires.open.few in omega arith

pub put-requires-clause-known : goal.put-requires-clause-known
put-requires-clause-known g c = c.sink-hole.ensures.moved.hollow.known

pub returns-clause-cost : goal.returns-clause-cost
returns-clause-cost g c = no_side (c.args.start + 1) (length c.args.entries.now * length c.args.entries.now) c.args.steps.now c.sink-hole.new.steps (omega arith) c.sink-hole.ensures.cost

pub returns-clause-heap : goal.returns-clause-heap
returns-clause-heap g c =
    let h = c.sink-hole in
    let few : length c.sink-hole.new.entries ≤ 2 ^ 32 = let f = c.requires.open.few in omega arith in
    rw (c.put.ensures.entries, c.put.ensures.places) (ticket_filled c.args.instants.now h.new.entries h.new.places h.result c.args.entry.now h.ensures.moved.hollow h.ensures.stamped c.requires.open.stamped_hand few h.ensures.above h.ensures.below)

pub returns-clause-stands : goal.returns-clause-stands
returns-clause-stands g c = λ e.
    let h = c.sink-hole in
    let s = stands_there c.args.instants.now h.new.entries h.new.places h.result c.args.entry.now h.ensures.moved.hollow e in
    rw c.put.ensures.entries (
      λ k. elim (s.0 k) [ inl t ↦ inl t | inr o ↦ inr ((h.ensures.moved.same e).1 o) ],
      λ k. s.1 (elim k [ inl t ↦ inl t | inr o ↦ inr ((h.ensures.moved.same e).0 o) ]),
    )
