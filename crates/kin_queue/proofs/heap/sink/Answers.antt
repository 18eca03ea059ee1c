use Rattle.std.proofs.Common.{◌≡◌, ◌+◌, ◌*◌, ◌≤◌, ◌<◌, true, false, sym, ◌∙◌, length, get_or, arith, mul-le-mul}
use Rattle.std.proofs.lemmas.List.Elements.{All-set}
use Rattle.kin_queue.specs.Tickets.{IsStamped, entries_of}
use Rattle.kin_queue.specs.Hole.{IsEarliestBelow}
use Rattle.kin_queue.proofs.Costs.{two_more, more_bound}
use Rattle.kin_queue.proofs.Tickets.{blank, entries_length, ticket_there}
use Rattle.kin_queue.proofs.Steps.{known_there, ticket_sunk, fits_below_lowered, fits_above_there, fits_above_none, last_earliest}
use Rattle.kin_queue.proofs.heap.sink.Goals as goal

pub levels-init : goal.levels-init
levels-init g c = record {
  moved = record { hollow = c.requires.hollow.hollow; same = λ e. (λ s. s, λ s. s) };
  stamped = c.requires.hollow.stamped;
  above = c.requires.above;
  cost = (0, omega arith, omega arith);
}

pub earlier_below-child-requires-clause-stamped : goal.earlier_below-child-requires-clause-stamped
earlier_below-child-requires-clause-stamped g c = c.levels.invariant.stamped

pub bounds-entries-child : goal.bounds-entries-child
bounds-entries-child g c = ticket_there c.args.instants.now c.levels.entries c.earlier_below-child.result c.earlier_below-child.ensures.child.within

pub is_earlier-requires-clause-left : goal.is_earlier-requires-clause-left
is_earlier-requires-clause-left g c =
    c.levels.invariant.stamped c.earlier_below-child.result blank (ticket_there c.args.instants.now c.levels.entries c.earlier_below-child.result c.earlier_below-child.ensures.child.within)

pub is_earlier-requires-clause-right : goal.is_earlier-requires-clause-right
is_earlier-requires-clause-right g c = c.requires.hollow.stamped_hand

pub returns-then-not-is_earlier-clause-moved : goal.returns-then-not-is_earlier-clause-moved
returns-then-not-is_earlier-clause-moved g c = c.levels.invariant.moved

pub returns-then-not-is_earlier-clause-stamped : goal.returns-then-not-is_earlier-clause-stamped
returns-then-not-is_earlier-clause-stamped g c = c.levels.invariant.stamped

pub returns-then-not-is_earlier-clause-above : goal.returns-then-not-is_earlier-clause-above
returns-then-not-is_earlier-clause-above g c = c.levels.invariant.above

pub returns-then-not-is_earlier-clause-below : goal.returns-then-not-is_earlier-clause-below
returns-then-not-is_earlier-clause-below g c =
    let l = c.levels in
    let ms = c.args.instants.now in
    let child : IsEarliestBelow (entries_of c.args.instants.now c.levels.entries) c.levels.hole c.earlier_below-child.result = c.earlier_below-child.ensures.child in
    fits_above_there ms l.entries l.places l.hole c.earlier_below-child.result c.args.entry.now l.invariant.moved.hollow (ticket_there ms l.entries c.earlier_below-child.result child.within) child
    (λ h. absurd (let k : false ≡ true = sym c.if-not-is_earlier.true ∙ c.is_earlier.ensures.earlier.1 h in cc))

pub returns-then-not-is_earlier-clause-cost : goal.returns-then-not-is_earlier-clause-cost
returns-then-not-is_earlier-clause-cost g c =
    let l = c.levels in
    let ms = c.args.instants.now in
    let child : IsEarliestBelow (entries_of c.args.instants.now c.levels.entries) c.levels.hole c.earlier_below-child.result = c.earlier_below-child.ensures.child in
    let inside : c.earlier_below-child.result < length c.levels.entries = ticket_there ms l.entries c.earlier_below-child.result child.within in
    let room : 2 * (c.levels.hole + 1) ≤ length c.args.entries.now = let b = child.below in omega arith in
    two_more ((c.args.start + 1) * (c.args.start + 1)) (l.hole + 1) (length c.args.entries.now) c.args.steps.now l.steps c.is_earlier.new.steps l.invariant.cost (let a = c.earlier_below-child.ensures.low in let b = c.is_earlier.ensures.low in omega arith) (let a = c.earlier_below-child.ensures.high in let b = c.is_earlier.ensures.high in omega arith) room

pub slice_copy_out-below : goal.slice_copy_out-below
slice_copy_out-below g c = ticket_there c.args.instants.now c.levels.entries c.earlier_below-child.result c.earlier_below-child.ensures.child.within

pub put-requires-clause-place : goal.put-requires-clause-place
put-requires-clause-place g c = let l = c.levels in ticket_there c.args.instants.now l.entries l.hole l.invariant.moved.hollow.within

pub put-requires-clause-few : goal.put-requires-clause-few
put-requires-clause-few g c = let f = c.requires.hollow.few in omega arith

pub put-requires-clause-known : goal.put-requires-clause-known
put-requires-clause-known g c =
    let l = c.levels in
    let ms = c.args.instants.now in
    let child : IsEarliestBelow (entries_of c.args.instants.now c.levels.entries) c.levels.hole c.earlier_below-child.result = c.earlier_below-child.ensures.child in
    known_there ms l.entries l.places l.hole c.earlier_below-child.result c.args.entry.now l.invariant.moved.hollow (ticket_there ms l.entries c.earlier_below-child.result child.within) (λ s. absurd (let b = child.below in omega arith))

pub levels-preserved : goal.levels-preserved
levels-preserved g c =
    let l = c.levels in
    let ms = c.args.instants.now in
    let child : IsEarliestBelow (entries_of c.args.instants.now c.levels.entries) c.levels.hole c.earlier_below-child.result = c.earlier_below-child.ensures.child in
    let inside : c.earlier_below-child.result < length c.levels.entries = ticket_there ms l.entries c.earlier_below-child.result child.within in
    let deeper : 2 * (c.levels.hole + 1) ≤ c.earlier_below-child.result + 1 = let b = child.below in omega arith in
    rw (c.put.ensures.entries, c.put.ensures.places) (record {
      moved = ticket_sunk ms l.entries l.places l.hole c.earlier_below-child.result c.args.entry.now l.invariant.moved.hollow inside child _ c.args.start l.invariant.moved;
      stamped = All-set (IsStamped ms) l.entries l.hole (get_or l.entries c.earlier_below-child.result blank) (l.invariant.stamped c.earlier_below-child.result blank inside) l.invariant.stamped;
      above = fits_below_lowered ms l.entries l.places l.hole c.earlier_below-child.result c.args.entry.now l.invariant.moved.hollow inside child (c.is_earlier.ensures.earlier.0 c.if-not-is_earlier.false);
      cost = two_more ((c.args.start + 1) * (c.args.start + 1)) (l.hole + 1) (c.earlier_below-child.result + 1) c.args.steps.now l.steps c.is_earlier.new.steps l.invariant.cost (let a = c.earlier_below-child.ensures.low in let b = c.is_earlier.ensures.low in omega arith) (let a = c.earlier_below-child.ensures.high in let b = c.is_earlier.ensures.high in omega arith) deeper;
    })

-- the last entry stands alone below
pub put-requires-2-clause-few : goal.put-requires-2-clause-few
put-requires-2-clause-few g c = let f = c.requires.hollow.few in omega arith

pub put-requires-2-clause-known : goal.put-requires-2-clause-known
put-requires-2-clause-known g c =
    let l = c.levels in
    let inside : 2 * c.levels.hole + 1 < length c.levels.entries = omega arith in
    known_there c.args.instants.now l.entries l.places l.hole (2 * l.hole + 1) c.args.entry.now l.invariant.moved.hollow inside (λ s. absurd (omega arith))

pub returns-then-last-entries-clause-moved : goal.returns-then-last-entries-clause-moved
returns-then-last-entries-clause-moved g c = c.levels.invariant.moved

pub returns-then-last-entries-clause-stamped : goal.returns-then-last-entries-clause-stamped
returns-then-last-entries-clause-stamped g c = c.levels.invariant.stamped

pub returns-then-last-entries-clause-above : goal.returns-then-last-entries-clause-above
returns-then-last-entries-clause-above g c = c.levels.invariant.above

pub returns-then-last-entries-clause-below : goal.returns-then-last-entries-clause-below
returns-then-last-entries-clause-below g c = fits_above_none c.args.instants.now c.levels.entries c.levels.hole c.args.entry.now (omega arith)

pub returns-then-last-entries-clause-cost : goal.returns-then-last-entries-clause-cost
returns-then-last-entries-clause-cost g c =
    let l = c.levels in
    let inside : c.levels.hole < length c.levels.entries = ticket_there c.args.instants.now l.entries l.hole l.invariant.moved.hollow.within in
    let side : c.levels.hole + 1 ≤ length c.args.entries.now = omega arith in
    more_bound ((c.args.start + 1) * (c.args.start + 1)) ((l.hole + 1) * (l.hole + 1)) (length c.args.entries.now * length c.args.entries.now) c.args.steps.now l.steps l.invariant.cost (mul-le-mul side side)

pub is_earlier-requires-2-clause-left : goal.is_earlier-requires-2-clause-left
is_earlier-requires-2-clause-left g c = c.levels.invariant.stamped (2 * c.levels.hole + 1) blank (omega arith)

pub is_earlier-requires-2-clause-right : goal.is_earlier-requires-2-clause-right
is_earlier-requires-2-clause-right g c = c.requires.hollow.stamped_hand

pub returns-then-not-is_earlier-2-clause-moved : goal.returns-then-not-is_earlier-2-clause-moved
returns-then-not-is_earlier-2-clause-moved g c = c.levels.invariant.moved

pub returns-then-not-is_earlier-2-clause-stamped : goal.returns-then-not-is_earlier-2-clause-stamped
returns-then-not-is_earlier-2-clause-stamped g c = c.levels.invariant.stamped

pub returns-then-not-is_earlier-2-clause-above : goal.returns-then-not-is_earlier-2-clause-above
returns-then-not-is_earlier-2-clause-above g c = c.levels.invariant.above

pub put-requires-2-clause-place : goal.put-requires-2-clause-place
put-requires-2-clause-place g c = let l = c.levels in ticket_there c.args.instants.now l.entries l.hole l.invariant.moved.hollow.within

pub returns-then-not-is_earlier-2-clause-below : goal.returns-then-not-is_earlier-2-clause-below
returns-then-not-is_earlier-2-clause-below g c =
    let l = c.levels in
    let ms = c.args.instants.now in
    let inside : 2 * c.levels.hole + 1 < length c.levels.entries = omega arith in
    let size : length (entries_of c.args.instants.now c.levels.entries) ≡ 2 * c.levels.hole + 2 = let n = entries_length ms l.entries in omega arith in
    fits_above_there ms l.entries l.places l.hole (2 * l.hole + 1) c.args.entry.now l.invariant.moved.hollow inside (last_earliest (entries_of ms l.entries) l.hole size)
    (λ h. absurd (let k : false ≡ true = sym c.if-not-is_earlier-2.true ∙ c.is_earlier-2.ensures.earlier.1 h in cc))

pub returns-then-not-is_earlier-2-clause-cost : goal.returns-then-not-is_earlier-2-clause-cost
returns-then-not-is_earlier-2-clause-cost g c =
    let l = c.levels in
    let room : 2 * (c.levels.hole + 1) ≤ length c.args.entries.now = omega arith in
    two_more ((c.args.start + 1) * (c.args.start + 1)) (l.hole + 1) (length c.args.entries.now) c.args.steps.now l.steps c.is_earlier-2.new.steps l.invariant.cost c.is_earlier-2.ensures.low (let b = c.is_earlier-2.ensures.high in omega arith) room

pub returns-clause-moved : goal.returns-clause-moved
returns-clause-moved g c =
    let l = c.levels in
    let ms = c.args.instants.now in
    let inside : 2 * c.levels.hole + 1 < length c.levels.entries = omega arith in
    let size : length (entries_of c.args.instants.now c.levels.entries) ≡ 2 * c.levels.hole + 2 = let n = entries_length ms l.entries in omega arith in
    rw (c.put-2.ensures.entries, c.put-2.ensures.places)
    (ticket_sunk ms l.entries l.places l.hole (2 * l.hole + 1) c.args.entry.now l.invariant.moved.hollow inside (last_earliest (entries_of ms l.entries) l.hole size) _ c.args.start l.invariant.moved)

pub returns-clause-stamped : goal.returns-clause-stamped
returns-clause-stamped g c =
    let l = c.levels in
    let ms = c.args.instants.now in
    let inside : 2 * c.levels.hole + 1 < length c.levels.entries = omega arith in
    rw c.put-2.ensures.entries (All-set (IsStamped ms) l.entries l.hole (get_or l.entries (2 * l.hole + 1) blank) (l.invariant.stamped (2 * l.hole + 1) blank inside) l.invariant.stamped)

pub returns-clause-above : goal.returns-clause-above
returns-clause-above g c =
    let l = c.levels in
    let ms = c.args.instants.now in
    let inside : 2 * c.levels.hole + 1 < length c.levels.entries = omega arith in
    let size : length (entries_of c.args.instants.now c.levels.entries) ≡ 2 * c.levels.hole + 2 = let n = entries_length ms l.entries in omega arith in
    rw c.put-2.ensures.entries
    (fits_below_lowered ms l.entries l.places l.hole (2 * l.hole + 1) c.args.entry.now l.invariant.moved.hollow inside (last_earliest (entries_of ms l.entries) l.hole size) (c.is_earlier-2.ensures.earlier.0 c.if-not-is_earlier-2.false))

pub returns-clause-below : goal.returns-clause-below
returns-clause-below g c = fits_above_none c.args.instants.now c.put-2.new.entries (2 * c.levels.hole + 1) c.args.entry.now (omega arith)

pub returns-clause-cost : goal.returns-clause-cost
returns-clause-cost g c =
    let l = c.levels in
    let room : 2 * (c.levels.hole + 1) ≤ length c.args.entries.now = omega arith in
    two_more ((c.args.start + 1) * (c.args.start + 1)) (l.hole + 1) (length c.args.entries.now) c.args.steps.now l.steps c.is_earlier-2.new.steps l.invariant.cost c.is_earlier-2.ensures.low (let b = c.is_earlier-2.ensures.high in omega arith) room

pub offset_bounds-entries-child : goal.offset_bounds-entries-child
offset_bounds-entries-child g c =
    let inside : c.earlier_below-child.result < length c.levels.entries = ticket_there c.args.instants.now c.levels.entries c.earlier_below-child.result c.earlier_below-child.ensures.child.within in
    omega arith

pub offset_bounds-entries-child-in-levels : goal.offset_bounds-entries-child-in-levels
offset_bounds-entries-child-in-levels g c =
    let inside : c.earlier_below-child.result < length c.levels.entries = ticket_there c.args.instants.now c.levels.entries c.earlier_below-child.result c.earlier_below-child.ensures.child.within in
    omega arith

pub offset_bounds-entries-last : goal.offset_bounds-entries-last
offset_bounds-entries-last g c = omega arith

pub offset_bounds-entries-last-2 : goal.offset_bounds-entries-last-2
offset_bounds-entries-last-2 g c = omega arith

pub bounds-entries-last : goal.bounds-entries-last
bounds-entries-last g c = omega arith

pub overflow_mul-hole : goal.overflow_mul-hole
overflow_mul-hole g c =
    let inside : c.levels.hole < length c.levels.entries = ticket_there c.args.instants.now c.levels.entries c.levels.hole c.levels.invariant.moved.hollow.within in
    omega arith

pub overflow_add-hole : goal.overflow_add-hole
overflow_add-hole g c =
    let inside : c.levels.hole < length c.levels.entries = ticket_there c.args.instants.now c.levels.entries c.levels.hole c.levels.invariant.moved.hollow.within in
    omega arith

pub overflow_mul-last : goal.overflow_mul-last
overflow_mul-last g c =
    let inside : c.levels.hole < length c.levels.entries = ticket_there c.args.instants.now c.levels.entries c.levels.hole c.levels.invariant.moved.hollow.within in
    omega arith

pub overflow_add-last : goal.overflow_add-last
overflow_add-last g c =
    let inside : c.levels.hole < length c.levels.entries = ticket_there c.args.instants.now c.levels.entries c.levels.hole c.levels.invariant.moved.hollow.within in
    omega arith

pub earlier_below-child-requires-clause-both : goal.earlier_below-child-requires-clause-both
earlier_below-child-requires-clause-both g c = omega arith

pub levels-smaller : goal.levels-smaller
levels-smaller g c =
    let deeper = c.earlier_below-child.ensures.child.below in
    let inside : c.earlier_below-child.result < length c.levels.entries = ticket_there c.args.instants.now c.levels.entries c.earlier_below-child.result c.earlier_below-child.ensures.child.within in
    omega arith
