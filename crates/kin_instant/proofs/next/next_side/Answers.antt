use Rattle.std.proofs.Common.{◌≡◌, ◌≢◌, refl, sym, ◌∙◌}
use Rattle.kin_algebra.specs.declared.sign.Sign.{Sign}
use Rattle.kin_algebra.specs.declared.sign.Sign.TheVariants.{Minus, Zero, Plus}
use Rattle.kin_instant.proofs.CurveRoots.{between, falling, rising}
use Rattle.kin_instant.proofs.Existence.{roots_exist}
use Rattle.kin_instant.proofs.next.next_side.Goals as goal

positive : (s : Sign) → s ≢ Minus → s ≢ Zero → s ≡ Plus
positive Minus n m = absurd (n refl)
positive Zero n m = absurd (m refl)
positive Plus n m = refl

pub returns-in-Minus-clause-next : goal.returns-in-Minus-clause-next
returns-in-Minus-clause-next c = λ answer k. between c.args.p.now.a c.args.p.now.b c.args.p.now.c c.requires.cup c.args.m.now c.recall_canonical.ensures.form answer k (c.requires.sign ∙ c.in-Minus.is)

pub returns-in-Minus-slope_sign : goal.returns-in-Minus-slope_sign
returns-in-Minus-slope_sign c = record {
  next = λ answer k. falling c.args.p.now.a c.args.p.now.b c.args.p.now.c c.requires.cup c.args.m.now c.recall_canonical.ensures.form answer k (c.requires.sign ∙ positive c.args.sign c.in_default.not-Minus c.requires.some) (sym c.slope_sign.ensures.value ∙ c.in-Minus-slope_sign.is);
  none = tt;
}

pub returns-in_default-slope_sign : goal.returns-in_default-slope_sign
returns-in_default-slope_sign c = record {
  next = tt;
  none = let k = roots_exist c.args.p.now c.recall_small.ensures in
      rising c.args.p.now.a c.args.p.now.b c.args.p.now.c c.requires.cup c.args.m.now c.recall_canonical.ensures.form k.0 k.1 (c.requires.sign ∙ positive c.args.sign c.in_default.not-Minus c.requires.some) (λ e. c.in_default-slope_sign.not-Minus (c.slope_sign.ensures.value ∙ e));
}
