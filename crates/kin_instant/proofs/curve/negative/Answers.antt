use Rattle.std.proofs.Common.{◌≡◌, ◌≤◌, ◌^◌, ℤ, pos, ◌-ℤ◌, unsigned_abs, w64, to_z, of_z, arith, ap, ◌∙◌}
use lib.IntN.{neg_ℤ}
use Rattle.kin_num.specs.Quadratic.{Quadratic, negated}
use Rattle.kin_instant.specs.Roots.{quadratic}
use Rattle.kin_instant.proofs.Widths.{opposite-value}
use Rattle.kin_instant.proofs.curve.negative.Goals as goal

opposite : (x' x : ℤ) → x' ≡ x → unsigned_abs x' ≤ 2 ^ 31 → to_z w64 (of_z w64 (pos 0 -ℤ to_z w64 (of_z w64 x'))) ≡ neg_ℤ x
opposite x' x e h = opposite-value x' h ∙ ap neg_ℤ e

same : (p : Quadratic) (a b c : ℤ) → a ≡ p.a → b ≡ p.b → c ≡ p.c → quadratic a b c ≡ p
same p a b c e f g = ap (λ (x : ℤ). quadratic x b c) e ∙ ap (λ (x : ℤ). quadratic p.a x c) f ∙ ap (quadratic p.a p.b) g

pub returns : goal.returns
returns c =
    c.new.ensures
    ∙ same (negated c.args.p.now) _ _ _ (opposite c.a.result c.args.p.now.a c.a.ensures.value (omega (arith, c.a.ensures.small))) (opposite c.b.result c.args.p.now.b c.b.ensures.value c.b.ensures.small) (opposite c.c.result c.args.p.now.c c.c.ensures.value (omega (arith, c.c.ensures.small)))
