use Rattle.std.proofs.Common.{◌≡◌, ◌≤◌, ◌+◌, ◌*◌, ℕ, length, subst, arith}
use Rattle.std.proofs.lemmas.Nat.{mul-le}
use Rattle.kin_queue.specs.Tickets.{entry_of, entries_of}
use Rattle.kin_queue.specs.Hole.{RisesWithin, HasMoved, IsHollow, FitsBelow}
use Rattle.kin_queue.proofs.Costs.{both_ways, more_bound}
use Rattle.kin_queue.proofs.Tickets.{ticket_there}
use Rattle.kin_queue.proofs.heap.find_hole.Goals as goal

pub rise-hole-requires : goal.rise-hole-requires
rise-hole-requires g c = c.requires

pub returns-then-hole-start-clause-moved : goal.returns-then-hole-start-clause-moved
returns-then-hole-start-clause-moved g c = c.rise-hole.ensures.moved

pub returns-then-hole-start-clause-stamped : goal.returns-then-hole-start-clause-stamped
returns-then-hole-start-clause-stamped g c = c.rise-hole.ensures.stamped

pub returns-then-hole-start-clause-above : goal.returns-then-hole-start-clause-above
returns-then-hole-start-clause-above g c = c.rise-hole.ensures.above

pub returns-then-hole-start-clause-below : goal.returns-then-hole-start-clause-below
returns-then-hole-start-clause-below g c = c.rise-hole.ensures.below c.if-hole-start.true

pub returns-then-hole-start-clause-cost : goal.returns-then-hole-start-clause-cost
returns-then-hole-start-clause-cost g c =
    let n = length c.args.entries.now in
    let inside : c.args.start + 1 ≤ length c.args.entries.now = let w = ticket_there c.args.instants.now c.args.entries.now c.args.start c.requires.hollow.within in omega arith in
    let square : n * 1 ≤ n * n = mul-le n 1 n n (omega arith) (omega arith) in
    more_bound 1 (c.args.start + 1) (n * n) c.args.steps.now c.rise-hole.new.steps c.rise-hole.ensures.cost (omega arith)

pub sink-requires-clause-hollow : goal.sink-requires-clause-hollow
sink-requires-clause-hollow g c =
    let h = c.rise-hole in
    let here : c.rise-hole.result ≡ c.args.start = omega arith in
    record {
      hollow = subst (λ (n : ℕ). IsHollow (entries_of c.args.instants.now h.new.entries) h.new.places n (entry_of c.args.instants.now c.args.entry.now)) here h.ensures.moved.hollow;
      stamped = h.ensures.stamped;
      stamped_hand = c.requires.stamped_hand;
      few = let f = c.requires.few in omega arith;
    }

pub sink-requires-clause-above : goal.sink-requires-clause-above
sink-requires-clause-above g c =
    let h = c.rise-hole in
    let here : c.rise-hole.result ≡ c.args.start = omega arith in
    subst (λ (n : ℕ). FitsBelow (entries_of c.args.instants.now h.new.entries) n (entry_of c.args.instants.now c.args.entry.now)) here h.ensures.above

pub returns-clause-stamped : goal.returns-clause-stamped
returns-clause-stamped g c = c.sink.ensures.stamped

pub returns-clause-above : goal.returns-clause-above
returns-clause-above g c = c.sink.ensures.above

pub returns-clause-below : goal.returns-clause-below
returns-clause-below g c = c.sink.ensures.below

pub returns-clause-moved : goal.returns-clause-moved
returns-clause-moved g c =
    let ms = c.args.instants.now in
    let here : c.rise-hole.result ≡ c.args.start = omega arith in
    let second = c.sink.ensures.moved in
    let one : HasMoved (entry_of c.args.instants.now c.args.entry.now) (entries_of c.args.instants.now c.args.entries.now) c.args.start (entries_of c.args.instants.now c.rise-hole.new.entries) c.rise-hole.new.places c.args.start =
    subst (HasMoved (entry_of ms c.args.entry.now) (entries_of ms c.args.entries.now) c.args.start (entries_of ms c.rise-hole.new.entries) c.rise-hole.new.places) here c.rise-hole.ensures.moved in
    record {
      hollow = second.hollow;
      same = λ e. (λ s. (second.same e).0 ((one.same e).0 s), λ s. (one.same e).1 ((second.same e).1 s));
    }

pub returns-clause-cost : goal.returns-clause-cost
returns-clause-cost g c =
    let same : length c.rise-hole.new.entries ≡ length c.args.entries.now = omega arith in
    let down : RisesWithin ((c.args.start + 1) * (c.args.start + 1)) (length c.args.entries.now * length c.args.entries.now) c.rise-hole.new.steps c.sink.new.steps =
    subst (λ (n : ℕ). RisesWithin ((c.args.start + 1) * (c.args.start + 1)) (n * n) c.rise-hole.new.steps c.sink.new.steps) same c.sink.ensures.cost in
    both_ways (c.args.start + 1) (length c.args.entries.now * length c.args.entries.now) c.args.steps.now c.rise-hole.new.steps c.sink.new.steps (omega arith) c.rise-hole.ensures.cost down
