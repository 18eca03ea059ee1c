use Rattle.std.proofs.Common.{◌≡◌, ◌+◌, ◌*◌, ◌^◌, ◌≤◌, inl, inr, length, arith}
use Rattle.std.proofs.lemmas.Nat.{mul-le}
use Rattle.std.proofs.lemmas.Bool.{cases_eq}
use Rattle.kin_queue.specs.Tickets.{entry_of, entries_of}
use Rattle.kin_queue.specs.Hole.{FitsAbove}
use Rattle.kin_queue.proofs.Tickets.{ticket_there}
use Rattle.kin_queue.proofs.Steps.{ticket_filled, stands_there, fits_above_none}
use Rattle.kin_queue.proofs.Costs.{more_bound}
use Rattle.kin_queue.proofs.heap.lift.Goals as goal

pub rise-hole-requires : goal.rise-hole-requires
rise-hole-requires g c = c.requires.open

pub put-requires-clause-place : goal.put-requires-clause-place
put-requires-clause-place g c = let h = c.rise-hole in ticket_there c.args.instants.now h.new.entries h.result h.ensures.moved.hollow.within

pub put-requires-clause-few : goal.put-requires-clause-few
put-requires-clause-few g c = let f = c.requires.open.few in omega arith

pub put-requires-clause-known : goal.put-requires-clause-known
put-requires-clause-known g c = c.rise-hole.ensures.moved.hollow.known

pub returns-clause-heap : goal.returns-clause-heap
returns-clause-heap g c =
    let ms = c.args.instants.now in
    let h = c.rise-hole in
    let below : FitsAbove (entries_of c.args.instants.now c.rise-hole.new.entries) c.rise-hole.result (entry_of c.args.instants.now c.args.entry.now) =
    elim (cases_eq c.rise-hole.result c.args.end) [
      | inl s ↦ fits_above_none ms h.new.entries h.result c.args.entry.now (omega arith)
      | inr n ↦ h.ensures.below n
    ] in
    let few : length c.rise-hole.new.entries ≤ 2 ^ 32 = let f = c.requires.open.few in omega arith in
    rw (c.put.ensures.entries, c.put.ensures.places) (ticket_filled ms h.new.entries h.new.places h.result c.args.entry.now h.ensures.moved.hollow h.ensures.stamped c.requires.open.stamped_hand few h.ensures.above below)

pub returns-clause-stands : goal.returns-clause-stands
returns-clause-stands g c = λ e.
    let h = c.rise-hole in
    let s = stands_there c.args.instants.now h.new.entries h.new.places h.result c.args.entry.now h.ensures.moved.hollow e in
    rw c.put.ensures.entries (
      λ k. elim (s.0 k) [ inl t ↦ inl t | inr o ↦ inr ((h.ensures.moved.same e).1 o) ],
      λ k. s.1 (elim k [ inl t ↦ inl t | inr o ↦ inr ((h.ensures.moved.same e).0 o) ]),
    )

pub returns-clause-cost : goal.returns-clause-cost
returns-clause-cost g c =
    let n : length c.args.entries.now ≡ c.args.end + 1 = c.requires.last in
    let side : 1 ≤ length c.args.entries.now = omega arith in
    let square : 1 * length c.args.entries.now ≤ length c.args.entries.now * length c.args.entries.now = mul-le 1 (length c.args.entries.now) (length c.args.entries.now) (length c.args.entries.now) side (omega arith) in
    more_bound 1 (c.args.end + 1) (length c.args.entries.now * length c.args.entries.now) c.args.steps.now c.rise-hole.new.steps c.rise-hole.ensures.cost (omega arith)
