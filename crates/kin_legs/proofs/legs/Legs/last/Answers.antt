use Rattle.std.proofs.Common.{◌≡◌, sym, ap, ◌∙◌, arith, ◌<◌, [], length}
use Rattle.std.specs.VecDeque.{deque_items, deque_len}
use Rattle.std.proofs.lemmas.List.{get_or-map}
use Rattle.kin_legs.specs.Planning.{Planning, last, legs_of}
use Rattle.kin_legs.proofs.Filed.{last_lent}
use Rattle.kin_legs.proofs.legs.Legs.last.Goals as goal

pub returns : goal.returns
returns c =
    let qs = c.self.inside.by_point.items in
    let queue = c.index.result.now in
    let short : c.args.no < length qs = (let e = c.if-no-len.false in let f = c.len.ensures in omega (arith, e, f)) in
    let its = ap deque_items c.index.ensures ∙ sym (get_or-map deque_items qs c.args.no queue [] short) ∙ c.self.invariant.each c.args.no in
    let long : deque_len queue ≡ length queue.items = (let e = queue.ok in omega (arith, e)) in
    c.copied.ensures ∙ last_lent queue.items (deque_len queue) c.back.result long c.back.ensures.variant c.back.ensures.lookup ∙ ap last its
    ∙ ap (λ (p : Planning). last (legs_of c.args.no p.legs)) c.self.view_is
