use Rattle.std.proofs.Common.{◌≡◌, inl, inr, sym, ap, ◌∙◌, subst, arith, ℕ, ◌^◌, ◌<◌, cond, nat_eq, List, [], ◌∷◌, ◌++◌, map, length}
use Rattle.std.specs.Prelude.{slice_set, IfSome}
use Rattle.std.specs.VecDeque.{deque_items}
use Rattle.std.proofs.lemmas.List.{length-map, length-set, map-set, get_or-map}
use Rattle.kin_motion.specs.Numbers.{put_in}
use Rattle.kin_legs.specs.declared.leg.Leg.{Leg}
use Rattle.kin_legs.specs.Filing.{legs_in, filed_under}
use Rattle.kin_legs.specs.Planning.{Planning, is_earlier, last, legs_of}
use Rattle.kin_legs.proofs.Entries.{inserted, rising_keys}
use Rattle.kin_legs.proofs.Filed.{all_before_last, filed_set, leg_filed}
use Rattle.kin_legs.proofs.legs.Legs.add.Goals as goal

pub invariant_of-self-2 : goal.invariant_of-self-2
invariant_of-self-2 c =
    let leg = c.args.leg in
    let es = c.self.inside.by_time.entries in
    let old = c.self.inside.by_point.items in
    let qs = c.make_room.new.queues.items in
    let new = c.push_back_reserved.new.self in
    let earlier = all_before_last leg.no leg.at (legs_in es) c.self.invariant.rising (subst (λ (p : Planning). IfSome (last (legs_of leg.no p.legs)) (λ (l : Leg). l.at < leg.at)) (sym c.self.view_is) c.requires.later) in
    let legs : legs_in c.insert.new.self.entries ≡ put_in is_earlier leg (legs_in es) = ap legs_in c.in-Ok.ensures.entries ∙ inserted es (leg.at, leg.no) leg.m earlier in
    let short : leg.no < length qs = c.in_ok-make_room.ensures.enough in
    let long = length-map qs deque_items in
    let filed : (i : ℕ) → filed_under i (map deque_items qs) ≡ legs_of i (legs_in es) = λ i. c.in_ok-make_room.ensures.filed i ∙ c.self.invariant.each i in
    let queue = c.push_back_reserved.ensures.items ∙ ap (λ ms. ms ++ leg ∷ []) (ap deque_items c.index_mut.ensures.value ∙ sym (get_or-map deque_items qs leg.no c.index_mut.result.now [] short) ∙ filed leg.no) in
    record {
      rising = rising_keys c.insert.new.self.entries c.insert.ensures.ordered;
      few = (let e = c.self.invariant.few in let w = c.requires.within in let f = length-map (slice_set qs leg.no new) deque_items in let g = length-set qs leg.no new in let h = length-map old deque_items in
          let v = ap (λ (p : Planning). p.size) c.self.view_is in elim c.in_ok-make_room.ensures.few [ inl k ↦ omega (arith, e, f, g, h, k) | inr k ↦ omega (arith, f, g, k, subst (λ n. leg.no < 2 ^ n) (sym v) w) ]);
      each = λ i.
          ap (filed_under i) (map-set deque_items qs leg.no new)
          ∙ filed_set (map deque_items qs) leg.no (deque_items new) (omega (arith, short, long)) i
          ∙ ap (λ (ms : List Leg). cond (nat_eq i leg.no) ms (filed_under i (map deque_items qs))) queue
          ∙ ap (λ (ms : List Leg). cond (nat_eq i leg.no) (legs_of leg.no (legs_in es) ++ leg ∷ []) ms) (filed i)
          ∙ leg_filed leg i (legs_in es) c.self.invariant.rising earlier
          ∙ ap (legs_of i) (sym legs);
    }

pub returns-clause-ok : goal.returns-clause-ok
returns-clause-ok c =
    let leg = c.args.leg in
    let es = c.self.inside.by_time.entries in
    let earlier = all_before_last leg.no leg.at (legs_in es) c.self.invariant.rising (subst (λ (p : Planning). IfSome (last (legs_of leg.no p.legs)) (λ (l : Leg). l.at < leg.at)) (sym c.self.view_is) c.requires.later) in
    let legs : legs_in c.insert.new.self.entries ≡ put_in is_earlier leg (legs_in es) = ap legs_in c.in-Ok.ensures.entries ∙ inserted es (leg.at, leg.no) leg.m earlier in
    subst (λ (p : Planning). record { size = c.self.inside.size; legs = legs_in c.insert.new.self.entries } ≡ record { size = p.size; legs = put_in is_earlier leg p.legs }) c.self.view_is (λ t. record { size = c.self.inside.size; legs = legs t })
