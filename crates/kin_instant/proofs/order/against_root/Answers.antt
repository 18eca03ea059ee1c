use Rattle.std.proofs.Common.{◌≡◌, ℤ, w64, ap, sym, ◌∙◌, subst}
use Rattle.std.specs.Ordering.{MatchOrdering}
use Rattle.std.specs.declared.cmp.Ordering.{Ordering}
use Rattle.kin_num.specs.declared.instant.Shape.{Shape}
use Rattle.kin_num.specs.declared.instant.Shape.TheVariants.{Root}
use Rattle.kin_num.specs.Quadratic.{Quadratic}
use Rattle.kin_num.specs.Instants.{sign_at_instant, derivative}
use Rattle.kin_num.specs.Order.{IsLess}
use Rattle.kin_instant.specs.Roots.{quadratic}
use Rattle.kin_instant.proofs.Widths.{clean}
use Rattle.kin_algebra.specs.declared.sign.Sign.{Sign}
use Rattle.kin_instant.proofs.Places.{placed}
use Rattle.kin_instant.proofs.order.against_root.Goals as goal
use Rattle.kin_instant.proofs.order.against_root.Goals.{in-Minus, in_default}

same : (a b c a' b' c' : ℤ) → a' ≡ a → b' ≡ b → c' ≡ c → quadratic a' b' c' ≡ quadratic a b c
same a b c a' b' c' e f g = ap (λ (x : ℤ). quadratic x b' c') e ∙ ap (λ (x : ℤ). quadratic a x c') f ∙ ap (quadratic a b) g

value_is : (p q : Quadratic) (w : Shape) (v : Sign) → p ≡ q → v ≡ sign_at_instant p w → sign_at_instant q w ≡ v
value_is p q w v e f = ap (λ (x : Quadratic). sign_at_instant x w) (sym e) ∙ sym f

slope_is : (p q : Quadratic) (w : Shape) (s t : Sign) → p ≡ q → s ≡ sign_at_instant (derivative p) w → t ≡ s → sign_at_instant (derivative q) w ≡ t
slope_is p q w s t e f g = ap (λ (x : Quadratic). sign_at_instant (derivative x) w) (sym e) ∙ sym f ∙ sym g

pub returns : goal.returns
returns c =
    let w = c.args.w.now in
    let q = c.new-quadratic.ensures ∙ same c.args.a c.args.b c.args.c _ _ _ (clean w64 c.args.a c.ranges.a.sfits) (clean w64 c.args.b c.ranges.b.sfits) (clean w64 c.args.c c.ranges.c.sfits) in
    record {
      order = subst (λ (o : Ordering). MatchOrdering o (IsLess w (Root c.args.a c.args.b c.args.c c.args.upper)) (w ≡ Root c.args.a c.args.b c.args.c c.args.upper) (IsLess (Root c.args.a c.args.b c.args.c c.args.upper) w)) (sym c.place.ensures)
          (placed c.args.a c.args.b c.args.c c.requires.irreducible w c.value_sign-value.ensures.canonical.form c.value_sign-value.result c.match-value.slope c.args.upper
          (value_is c.new-quadratic.result (quadratic c.args.a c.args.b c.args.c) w c.value_sign-value.result q c.value_sign-value.ensures.value)
          (elim c.match-value.branch [ in-Minus b ↦ λ n. absurd (n b.in-Minus.is) | in_default b ↦ λ n. slope_is c.new-quadratic.result (quadratic c.args.a c.args.b c.args.c) w b.slope_sign-slope.result c.match-value.slope q b.slope_sign-slope.ensures.value b.slope-is ]));
    }
