use Rattle.std.proofs.Common.{inl, inr, ◌^◌, ◌≤◌, length, arith}
use Rattle.kin_queue.proofs.Tickets.{ticket_there}
use Rattle.kin_queue.proofs.Steps.{ticket_filled, stands_there}
use Rattle.kin_queue.proofs.heap.settle.Goals as goal

pub find_hole-hole-requires : goal.find_hole-hole-requires
find_hole-hole-requires g c = c.requires

pub put-requires-clause-place : goal.put-requires-clause-place
put-requires-clause-place g c = let h = c.find_hole-hole in ticket_there c.args.instants.now h.new.entries h.result h.ensures.moved.hollow.within

pub put-requires-clause-few : goal.put-requires-clause-few
put-requires-clause-few g c = let f = c.requires.few in omega arith

pub put-requires-clause-known : goal.put-requires-clause-known
put-requires-clause-known g c = c.find_hole-hole.ensures.moved.hollow.known

pub returns-clause-cost : goal.returns-clause-cost
returns-clause-cost g c = c.find_hole-hole.ensures.cost

pub returns-clause-heap : goal.returns-clause-heap
returns-clause-heap g c =
    let h = c.find_hole-hole in
    let few : length c.find_hole-hole.new.entries ≤ 2 ^ 32 = let f = c.requires.few in omega arith in
    rw (c.put.ensures.entries, c.put.ensures.places) (ticket_filled c.args.instants.now h.new.entries h.new.places h.result c.args.entry.now h.ensures.moved.hollow h.ensures.stamped c.requires.stamped_hand few h.ensures.above h.ensures.below)

pub returns-clause-stands : goal.returns-clause-stands
returns-clause-stands g c = λ e.
    let h = c.find_hole-hole in
    let s = stands_there c.args.instants.now h.new.entries h.new.places h.result c.args.entry.now h.ensures.moved.hollow e in
    rw c.put.ensures.entries (
      λ k. elim (s.0 k) [ inl t ↦ inl t | inr o ↦ inr ((h.ensures.moved.same e).1 o) ],
      λ k. s.1 (elim k [ inl t ↦ inl t | inr o ↦ inr ((h.ensures.moved.same e).0 o) ]),
    )
