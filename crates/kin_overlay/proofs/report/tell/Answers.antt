use Rattle.std.proofs.Common.{◌≡◌, refl, sym, ◌∙◌, subst, true, false, Option, inl, inr}
use Rattle.std.specs.Prelude.{option_to_list}
use Rattle.kin_motion.specs.declared.fact.Fact.{Fact}
use Rattle.kin_overlay.specs.Remembered.{facts_of}
use Rattle.kin_overlay.specs.Reports.{IsTold}
use Rattle.kin_overlay.proofs.report.tell.Goals as goal

pub returns : goal.returns
returns c =
    subst (λ (o : Option Fact). IsTold c.args.part (facts_of c.args.other.now) (option_to_list o) c.args.told.now.items c.push.new.self.items) (sym c.in-Some.is)
    (c.push.new.self.items, inr ((λ k. let clash : false ≡ true = sym c.if-has.false ∙ c.has.ensures.1 k in cc), c.in-Ok.ensures.items), refl)

pub returns-then-has : goal.returns-then-has
returns-then-has c =
    subst (λ (o : Option Fact). IsTold c.args.part (facts_of c.args.other.now) (option_to_list o) c.args.told.now.items c.args.told.now.items) (sym c.in-Some.is)
    (c.args.told.now.items, inl (c.has.ensures.0 c.if-has.true, refl), refl)
