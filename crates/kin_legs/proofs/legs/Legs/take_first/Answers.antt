use Rattle.std.proofs.Common.{◌≡◌, sym, ap, ◌∙◌, subst, arith, ◌<◌, cond, nat_eq, List, [], ◌∷◌, map, drop, length}
use Rattle.std.specs.Prelude.{slice_set}
use Rattle.std.specs.VecDeque.{deque_items}
use Rattle.std.proofs.lemmas.List.{length-map, length-set, map-set, get_or-map}
use Rattle.kin_legs.specs.declared.leg.Leg.{Leg}
use Rattle.kin_legs.specs.Filing.{legs_in, leg_in, filed_under}
use Rattle.kin_legs.specs.Planning.{legs_of, IsRising}
use Rattle.kin_legs.proofs.Filed.{filed_set, has_queue, first_goes, first_of_its, rising_behind}
use Rattle.kin_legs.proofs.legs.Legs.take_first.Goals as goal

pub index_mut-requires : goal.index_mut-requires
index_mut-requires c =
    let queues = map deque_items c.self.inside.by_point.items in
    let leg = leg_in ((c.in_ok-at.at, c.in_ok-at.no), c.in_ok-at.m) in
    let later = legs_in c.pop_first.new.self.entries in
    let its = c.self.invariant.each leg.no ∙ ap (λ es. legs_of leg.no (legs_in es)) c.in_ok-at.ensures.removal ∙ first_of_its leg later in
    let there = has_queue queues leg.no leg (legs_of leg.no later) its in
    let long = length-map c.self.inside.by_point.items deque_items in
    omega (arith, there, long)

pub invariant_of-self-2 : goal.invariant_of-self-2
invariant_of-self-2 c =
    let qs = c.self.inside.by_point.items in
    let leg = leg_in ((c.in_ok-at.at, c.in_ok-at.no), c.in_ok-at.m) in
    let later = legs_in c.pop_first.new.self.entries in
    let legs : legs_in c.self.inside.by_time.entries ≡ leg ∷ later = ap legs_in c.in_ok-at.ensures.removal in
    let its = c.self.invariant.each leg.no ∙ ap (legs_of leg.no) legs ∙ first_of_its leg later in
    let there = has_queue (map deque_items qs) leg.no leg (legs_of leg.no later) its in
    let long = length-map qs deque_items in
    let short : leg.no < length qs = omega (arith, there, long) in
    let queue : deque_items c.index_mut.result.now ≡ leg ∷ legs_of leg.no later = ap deque_items c.index_mut.ensures.value ∙ sym (get_or-map deque_items qs leg.no c.index_mut.result.now [] short) ∙ its in
    let rest : deque_items c.pop_front.new.self ≡ legs_of leg.no later = c.pop_front.ensures.rest ∙ ap (drop 1) queue in
    record {
      rising = rising_behind leg later (subst IsRising legs c.self.invariant.rising);
      few = (let e = c.self.invariant.few in let f = length-map (slice_set qs leg.no c.pop_front.new.self) deque_items in let g = length-set qs leg.no c.pop_front.new.self in omega (arith, e, f, g, long));
      each = λ i.
          ap (filed_under i) (map-set deque_items qs leg.no c.pop_front.new.self)
          ∙ filed_set (map deque_items qs) leg.no (deque_items c.pop_front.new.self) there i
          ∙ ap (λ (ms : List Leg). cond (nat_eq i leg.no) ms (filed_under i (map deque_items qs))) rest
          ∙ ap (λ (ms : List Leg). cond (nat_eq i leg.no) (legs_of leg.no later) ms) (c.self.invariant.each i ∙ ap (legs_of i) legs)
          ∙ first_goes i leg later;
    }
