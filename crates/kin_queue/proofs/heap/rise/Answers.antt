use Rattle.std.proofs.Common.{◌≡◌, ℕ, ◌+◌, ◌-◌, ◌/◌, ◌<◌, true, false, refl, sym, subst, ◌∙◌, length, get_or, arith}
use Rattle.std.proofs.lemmas.List.Elements.{All-set}
use Rattle.kin_queue.specs.Heap.{IsRightBelow}
use Rattle.kin_queue.specs.Tickets.{IsStamped}
use Rattle.kin_queue.specs.Hole.{RisesWithin}
use Rattle.kin_queue.proofs.Costs.{one_more}
use Rattle.kin_queue.proofs.Tickets.{blank, ticket_there}
use Rattle.kin_queue.proofs.Steps.{known_there, ticket_risen, fits_above_raised, fits_below_there}
use Rattle.kin_queue.proofs.heap.rise.Goals as goal

halved : (h : ℕ) → 0 < h → IsRightBelow ((h - 1) / 2) h
halved h some = (omega arith, omega arith)

less : (h n : ℕ) → h < n → (h - 1) / 2 < n
less h n lt = omega arith

pub loop-hole-init : goal.loop-hole-init
loop-hole-init g c = record {
  moved = record { hollow = c.requires.hollow; same = λ e. (λ s. s, λ s. s) };
  stamped = c.requires.stamped;
  below = λ n. absurd (n refl);
  cost = (0, omega arith, omega arith);
}

pub bounds-entries-parent : goal.bounds-entries-parent
bounds-entries-parent g c =
    let l = c.loop-hole in
    less l.hole (length l.entries) (ticket_there c.args.instants.now l.entries l.hole l.invariant.moved.hollow.within)

pub is_earlier-requires-clause-left : goal.is_earlier-requires-clause-left
is_earlier-requires-clause-left g c =
    let l = c.loop-hole in
    let above = l.invariant.stamped ((l.hole - 1) / 2) blank (less l.hole (length l.entries) (ticket_there c.args.instants.now l.entries l.hole l.invariant.moved.hollow.within)) in
    search (c.requires.stamped_hand, above)

pub is_earlier-requires-clause-right : goal.is_earlier-requires-clause-right
is_earlier-requires-clause-right g c =
    let l = c.loop-hole in
    let above = l.invariant.stamped ((l.hole - 1) / 2) blank (less l.hole (length l.entries) (ticket_there c.args.instants.now l.entries l.hole l.invariant.moved.hollow.within)) in
    search (c.requires.stamped_hand, above)

pub returns-then-not-is_earlier-clause-moved : goal.returns-then-not-is_earlier-clause-moved
returns-then-not-is_earlier-clause-moved g c = c.loop-hole.invariant.moved

pub returns-then-not-is_earlier-clause-stamped : goal.returns-then-not-is_earlier-clause-stamped
returns-then-not-is_earlier-clause-stamped g c = c.loop-hole.invariant.stamped

pub returns-then-not-is_earlier-clause-below : goal.returns-then-not-is_earlier-clause-below
returns-then-not-is_earlier-clause-below g c = c.loop-hole.invariant.below

pub returns-then-not-is_earlier-clause-above : goal.returns-then-not-is_earlier-clause-above
returns-then-not-is_earlier-clause-above g c =
    let l = c.loop-hole in
    let ms = c.args.instants.now in
    let w = l.invariant.moved.hollow in
    fits_below_there ms l.entries l.places l.hole ((l.hole - 1) / 2) c.args.entry.now w (less l.hole (length l.entries) (ticket_there ms l.entries l.hole w.within)) (halved l.hole c.loop-hole-test.true)
    (λ h. absurd (let k : false ≡ true = sym c.if-not-is_earlier.true ∙ c.is_earlier.ensures.earlier.1 h in cc))

pub returns-then-not-is_earlier-clause-cost : goal.returns-then-not-is_earlier-clause-cost
returns-then-not-is_earlier-clause-cost g c =
    let l = c.loop-hole in
    one_more (l.hole + 1) 1 (c.args.start + 1) c.args.steps.now l.steps c.is_earlier.new.steps l.invariant.cost c.is_earlier.ensures.low c.is_earlier.ensures.high (let h = c.loop-hole-test.true in omega arith)

pub slice_copy_out-above : goal.slice_copy_out-above
slice_copy_out-above g c =
    let l = c.loop-hole in
    less l.hole (length l.entries) (ticket_there c.args.instants.now l.entries l.hole l.invariant.moved.hollow.within)

pub put-requires-clause-place : goal.put-requires-clause-place
put-requires-clause-place g c = let l = c.loop-hole in ticket_there c.args.instants.now l.entries l.hole l.invariant.moved.hollow.within

pub put-requires-clause-few : goal.put-requires-clause-few
put-requires-clause-few g c = let f = c.requires.few in omega arith

pub put-requires-clause-known : goal.put-requires-clause-known
put-requires-clause-known g c =
    let l = c.loop-hole in
    let ms = c.args.instants.now in
    let w = l.invariant.moved.hollow in
    known_there ms l.entries l.places l.hole ((l.hole - 1) / 2) c.args.entry.now w (less l.hole (length l.entries) (ticket_there ms l.entries l.hole w.within)) (λ s. absurd (let h = c.loop-hole-test.true in omega arith))

pub loop-hole-preserved : goal.loop-hole-preserved
loop-hole-preserved g c =
    let l = c.loop-hole in
    let ms = c.args.instants.now in
    let w = l.invariant.moved.hollow in
    let inside : (l.hole - 1) / 2 < length l.entries = less l.hole (length l.entries) (ticket_there ms l.entries l.hole w.within) in
    let up : IsRightBelow ((l.hole - 1) / 2) l.hole = halved l.hole c.loop-hole-test.true in
    rw (c.put.ensures.entries, c.put.ensures.places) (record {
      moved = ticket_risen ms l.entries l.places l.hole ((l.hole - 1) / 2) c.args.entry.now w inside up _ c.args.start l.invariant.moved;
      stamped = All-set (IsStamped ms) l.entries l.hole (get_or l.entries ((l.hole - 1) / 2) blank) (l.invariant.stamped ((l.hole - 1) / 2) blank inside) l.invariant.stamped;
      below = λ n. fits_above_raised ms l.entries l.places l.hole ((l.hole - 1) / 2) c.args.entry.now w inside up (c.is_earlier.ensures.earlier.0 c.if-not-is_earlier.false);
      cost = one_more (l.hole + 1) ((l.hole - 1) / 2 + 1) (c.args.start + 1) c.args.steps.now l.steps c.is_earlier.new.steps l.invariant.cost c.is_earlier.ensures.low c.is_earlier.ensures.high (let h = c.loop-hole-test.true in omega arith);
    })

pub returns-clause-moved : goal.returns-clause-moved
returns-clause-moved g c = c.loop-hole.invariant.moved

pub returns-clause-stamped : goal.returns-clause-stamped
returns-clause-stamped g c = c.loop-hole.invariant.stamped

pub returns-clause-above : goal.returns-clause-above
returns-clause-above g c = λ p d up. absurd (let none = c.loop-hole-test.false in omega arith)

pub returns-clause-below : goal.returns-clause-below
returns-clause-below g c = c.loop-hole.invariant.below

pub returns-clause-cost : goal.returns-clause-cost
returns-clause-cost g c =
    let l = c.loop-hole in
    let top : c.loop-hole.hole ≡ 0 = let none = c.loop-hole-test.false in omega arith in
    subst (λ (h : ℕ). RisesWithin (h + 1) (c.args.start + 1) c.args.steps.now l.steps) top l.invariant.cost

pub offset_bounds-entries-parent : goal.offset_bounds-entries-parent
offset_bounds-entries-parent g c =
    let l = c.loop-hole in
    let inside : (c.loop-hole.hole - 1) / 2 < length c.loop-hole.entries = less l.hole (length l.entries) (ticket_there c.args.instants.now l.entries l.hole l.invariant.moved.hollow.within) in
    omega arith

pub offset_bounds-entries-parent-in-loop-hole : goal.offset_bounds-entries-parent-in-loop-hole
offset_bounds-entries-parent-in-loop-hole g c =
    let l = c.loop-hole in
    let inside : (c.loop-hole.hole - 1) / 2 < length c.loop-hole.entries = less l.hole (length l.entries) (ticket_there c.args.instants.now l.entries l.hole l.invariant.moved.hollow.within) in
    omega arith

pub loop-hole-smaller : goal.loop-hole-smaller
loop-hole-smaller g c = let some = c.loop-hole-test.true in omega arith
