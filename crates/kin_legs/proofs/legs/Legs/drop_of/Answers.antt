use Rattle.std.proofs.Common.{sym, ap, ◌∙◌, arith, ◌≤◌, cond, nat_eq, List, [], map, length}
use Rattle.std.specs.Prelude.{slice_set}
use Rattle.std.specs.VecDeque.{deque_items}
use Rattle.std.proofs.lemmas.List.{length-map, length-set, map-set, get_or_past}
use Rattle.kin_legs.specs.declared.leg.Leg.{Leg}
use Rattle.kin_legs.specs.Filing.{legs_in, filed_under}
use Rattle.kin_legs.specs.Planning.{Planning, legs_of}
use Rattle.kin_legs.proofs.Filed.{filed_set, legs_without, all_stay}
use Rattle.kin_legs.proofs.legs.Legs.drop_of.Goals as goal

pub invariant_of-self : goal.invariant_of-self
invariant_of-self c =
    let qs = c.self.inside.by_point.items in
    let new = c.strike_all.new.queue in
    let long = length-map qs deque_items in
    record {
      rising = c.strike_all.ensures.rising;
      few = (let e = c.self.invariant.few in let f = length-map (slice_set qs c.args.no new) deque_items in let g = length-set qs c.args.no new in omega (arith, e, f, g, long));
      each = λ i.
          ap (filed_under i) (map-set deque_items qs c.args.no new)
          ∙ filed_set (map deque_items qs) c.args.no (deque_items new) (let e = c.if-no-len.true in let f = c.len.ensures in omega (arith, e, f, long)) i
          ∙ ap (λ (ms : List Leg). cond (nat_eq i c.args.no) ms (filed_under i (map deque_items qs))) c.strike_all.ensures.queue
          ∙ ap (λ (ms : List Leg). cond (nat_eq i c.args.no) [] ms) (c.self.invariant.each i)
          ∙ sym (legs_without c.args.no i (legs_in c.self.inside.by_time.entries))
          ∙ ap (legs_of i) (sym c.strike_all.ensures.legs);
    }

pub returns-else-no-len : goal.returns-else-no-len
returns-else-no-len c =
    let qs = c.self.inside.by_point.items in
    let long = length-map qs deque_items in
    let past : length (map deque_items qs) ≤ c.args.no = (let e = c.if-no-len.false in let f = c.len.ensures in omega (arith, e, f, long)) in
    let none = ap (λ (p : Planning). legs_of c.args.no p.legs) (sym c.self.view_is) ∙ sym (c.self.invariant.each c.args.no) ∙ get_or_past (map deque_items qs) c.args.no [] past in
    λ t. record { size = c.args.self.now.size; legs = sym (all_stay c.args.no c.args.self.now.legs none) t }
