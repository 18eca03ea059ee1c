use Rattle.std.proofs.Common.{◌+◌, ◌*◌, ◌<◌, length, get_or, sym, subst, arith}
use Rattle.kin_queue.specs.Tickets.{entry_of, entries_of, IsStamped}
use Rattle.kin_queue.proofs.Tickets.{blank, entry_at, entry_there, first_from, second_from}
use Rattle.kin_queue.proofs.Steps.{earlier_child}
use Rattle.kin_queue.proofs.heap.earlier_below.Goals as goal

pub is_earlier-requires-clause-left : goal.is_earlier-requires-clause-left
is_earlier-requires-clause-left g c =
    let ts = c.args.entries.now in
    let left = 2 * c.args.place + 1 in
    let low : 2 * c.args.place + 1 < length c.args.entries.now = omega arith in
    let inside : 2 * c.args.place + 1 + 1 < length c.args.entries.now = omega arith in
    let first = subst (IsStamped c.args.instants.now) (sym (first_from ts left low)) (c.requires.stamped left blank low) in
    let second = subst (IsStamped c.args.instants.now) (sym (second_from ts left inside)) (c.requires.stamped (left + 1) blank inside) in
    search (first, second)

pub is_earlier-requires-clause-right : goal.is_earlier-requires-clause-right
is_earlier-requires-clause-right g c =
    let ts = c.args.entries.now in
    let left = 2 * c.args.place + 1 in
    let low : 2 * c.args.place + 1 < length c.args.entries.now = omega arith in
    let inside : 2 * c.args.place + 1 + 1 < length c.args.entries.now = omega arith in
    let first = subst (IsStamped c.args.instants.now) (sym (first_from ts left low)) (c.requires.stamped left blank low) in
    let second = subst (IsStamped c.args.instants.now) (sym (second_from ts left inside)) (c.requires.stamped (left + 1) blank inside) in
    search (first, second)

pub returns-clause-child : goal.returns-clause-child
returns-clause-child g c =
    let ms = c.args.instants.now in
    let ts = c.args.entries.now in
    let p = c.args.place in
    let inside : 2 * c.args.place + 1 + 1 < length c.args.entries.now = omega arith in
    let low : 2 * c.args.place + 1 < length c.args.entries.now = omega arith in
    rw c.from.ensures (earlier_child (entries_of ms ts) p (entry_of ms (get_or ts (2 * p + 1) blank)) (entry_of ms (get_or ts (2 * p + 1 + 1) blank)) (entry_there ms ts (2 * p + 1 + 1) inside) (entry_at ms ts (2 * p + 1) low) (entry_at ms ts (2 * p + 1 + 1) inside)
    (c.requires.stamped (2 * p + 1) blank low).canonical (c.requires.stamped (2 * p + 1 + 1) blank inside).canonical c.is_earlier.result (rw (second_from ts (2 * p + 1) inside, first_from ts (2 * p + 1) low) at c.is_earlier.ensures.earlier))
