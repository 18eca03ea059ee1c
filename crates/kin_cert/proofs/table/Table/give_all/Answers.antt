use Rattle.std.proofs.Common.{◌≡◌, ◌∙◌, ◌++◌, ◌∷◌, [], ℕ, ◌+◌, ◌*◌, List, length, length-append, refl, sym, ap, subst, arith, rules}
use Rattle.kin_fail.specs.declared.owned.Owned.{Owned}
use Rattle.kin_cert.specs.Cost.{TakesAtMost}
use Rattle.kin_cert.specs.Layout.{IsGivenUpTo}
use Rattle.kin_cert.proofs.Costs.{one_more}
use Rattle.kin_cert.proofs.Giving.{given-none, given-more}
use Rattle.kin_cert.proofs.table.Table.give_all.Goals as goal

pub loop-owned-init : goal.loop-owned-init
loop-owned-init g c =
    record {
      given = given-none c.args.moment.now c.args.self.now.live c.reserve.new.self.items (c.reserve.ensures.items ∙ c.requires.empty) c.requires.none_waits c.requires.due;
      room = omega (arith, c.in_ok-reserve.ensures.ok);
      count = refl;
      made = refl;
      cost = λ r e. let none = ap length (c.reserve.ensures.items ∙ c.requires.empty) in omega (arith, none);
    }

pub loop-owned-preserved : goal.loop-owned-preserved
loop-owned-preserved g c =
    let items : c.reserve-in-Some.new.self.items ≡ c.loop-owned.taken.items ++ c.in-Some.owned ∷ [] = c.reserve-in-Some.ensures.items ∙ c.push_reserved.ensures.items in
    let given = c.in-Some.ensures.given in
    record {
      given = subst (λ (xs : List Owned). IsGivenUpTo c.args.moment.now c.args.self.now.live c.give.new.self.live xs) (sym items)
          (given-more c.args.moment.now c.args.self.now.live c.loop-owned.self.live c.give.new.self.live c.loop-owned.taken.items c.in-Some.owned given.0 c.loop-owned.invariant.given c.give.ensures.once given.1 given.2);
      room = omega (arith, c.in_ok-reserve-2.ensures.ok);
      count = c.give.ensures.count ∙ c.loop-owned.invariant.count;
      made = c.give.ensures.made ∙ c.loop-owned.invariant.made;
      cost =
          let more : length c.reserve-in-Some.new.self.items ≡ length c.loop-owned.taken.items + 1 = ap length items ∙ length-append c.loop-owned.taken.items (c.in-Some.owned ∷ []) in
          subst (λ (n : ℕ). TakesAtMost (length c.args.self.now.live) (λ r. n * r) c.args.steps.now c.give.new.steps) (sym more)
          (one_more (length c.args.self.now.live) (length c.loop-owned.taken.items) _ _ _ (λ r. r) c.loop-owned.invariant.cost
          (subst (λ (n : ℕ). TakesAtMost n (λ r. r) c.loop-owned.steps c.give.new.steps) c.loop-owned.invariant.count c.give.ensures.cost));
    }

pub returns-clause-cost : goal.returns-clause-cost
returns-clause-cost g c = λ r e.
    let before = c.loop-owned.invariant.cost r e in
    omega (arith, before, c.in_default.ensures.idle)

pub returns-clause-given : goal.returns-clause-given
returns-clause-given g c = search rules

pub returns-clause-all : goal.returns-clause-all
returns-clause-all g c = search rules
