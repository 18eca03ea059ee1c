use Rattle.std.proofs.Common.{◌≡◌, ℕ, ◌≤◌, ◌<◌, length, get_or, nat_eq, sym, ap, subst, ◌∙◌, arith}
use Rattle.std.proofs.lemmas.Grind.{get_or_default_zero}
use Rattle.std.proofs.lemmas.List.{get_or_default}
use Rattle.kin_queue.specs.declared.ticket.Ticket.{Ticket}
use Rattle.kin_queue.proofs.Tickets.{blank}
use Rattle.kin_queue.proofs.Known.{unplaced, outside, told_there}
use Rattle.kin_queue.proofs.queue.Queue.has.Goals as goal

pub returns-then-id-len : goal.returns-then-id-len
returns-then-id-len c =
    sym (unplaced c.self.inside.instants c.self.inside.entries.items c.self.inside.places.items c.self.invariant.keyed.heap c.args.id c.self.inside.next c.args.self.now c.self.view_is (omega arith))

pub returns-then-known-len : goal.returns-then-known-len
returns-then-known-len c =
    let low : c.args.id < length c.self.inside.places.items = omega arith in
    let place : c.index.result.now ≡ get_or c.self.inside.places.items c.args.id 0 = c.index.ensures ∙ get_or_default_zero c.self.inside.places.items c.args.id c.index.result.now low in
    let far : length c.self.inside.entries.items ≤ c.index.result.now = omega arith in
    sym (outside c.self.inside.instants c.self.inside.entries.items c.self.inside.places.items c.self.invariant.keyed.heap c.args.id c.self.inside.next c.args.self.now c.self.view_is
    (subst (λ (n : ℕ). length c.self.inside.entries.items ≤ n) place far))

pub returns : goal.returns
returns c =
    let ts = c.self.inside.entries.items in
    let low : c.args.id < length c.self.inside.places.items = omega arith in
    let place : c.index.result.now ≡ get_or c.self.inside.places.items c.args.id 0 = c.index.ensures ∙ get_or_default_zero c.self.inside.places.items c.args.id c.index.result.now low in
    let near : c.index.result.now < length c.self.inside.entries.items = omega arith in
    let inside : get_or c.self.inside.places.items c.args.id 0 < length c.self.inside.entries.items = subst (λ (n : ℕ). n < length c.self.inside.entries.items) place near in
    let ticket : c.index-2.result.now ≡ get_or c.self.inside.entries.items (get_or c.self.inside.places.items c.args.id 0) blank =
    c.index-2.ensures ∙ sym (get_or_default ts c.index.result.now blank c.index-2.result.now near) ∙ ap (λ (n : ℕ). get_or c.self.inside.entries.items n blank) place in
    ap (λ (t : Ticket). nat_eq t.id c.args.id) ticket
    ∙ told_there c.self.inside.instants ts c.self.inside.places.items c.self.invariant.keyed.heap c.args.id c.self.inside.next c.args.self.now c.self.view_is inside
