use Rattle.std.proofs.Common.{◌≡◌, refl, sym, ap, ◌∙◌, arith, not, nat_eq, [], ◌∷◌}
use Rattle.std.proofs.lemmas.List.{nil_from_length}
use Rattle.kin_legs.specs.declared.leg.Leg.{Leg}
use Rattle.kin_legs.specs.Filing.{legs_in}
use Rattle.kin_legs.specs.Planning.{is_of, legs_of, without}
use Rattle.kin_legs.proofs.Entries.{rising_keys, removed, others_stay}
use Rattle.kin_legs.proofs.Filed.{is_its, itself, all_stay}
use Rattle.kin_legs.proofs.legs.strike_all.Goals as goal

pub loop-leg-preserved : goal.loop-leg-preserved
loop-leg-preserved c =
    let leg = c.in-Some.leg in
    let es = c.loop-leg.legs.entries in
    let rest = c.pop_front.new.self.items in
    let first : legs_of c.args.no (legs_in es) ≡ leg ∷ rest = sym c.loop-leg.invariant.filed ∙ c.in-Some.ensures.items in
    record {
      rising = rising_keys c.remove.new.self.entries c.remove.ensures.ordered;
      filed = sym (ap (λ fs. legs_of c.args.no (legs_in fs)) c.remove.ensures.entries ∙ removed c.args.no leg.at leg rest refl (is_its c.args.no (legs_in es) leg rest first) es first);
      others = ap (λ fs. without c.args.no (legs_in fs)) c.remove.ensures.entries ∙ others_stay c.args.no leg.at es (λ (l : Leg). not (is_of c.args.no l)) (λ l e. ap (λ n. not (nat_eq n c.args.no)) e ∙ ap not (itself c.args.no)) ∙ c.loop-leg.invariant.others;
    }

pub returns-clause-legs : goal.returns-clause-legs
returns-clause-legs c =
    let none : c.loop-leg.queue.items ≡ [] = nil_from_length c.loop-leg.queue.items (let e = c.loop-leg.queue.ok in let f = c.in_default.ensures.cases.0 in omega (arith, e, f)) in
    sym (all_stay c.args.no (legs_in c.loop-leg.legs.entries) (sym c.loop-leg.invariant.filed ∙ none)) ∙ c.loop-leg.invariant.others
