use Rattle.std.proofs.Common.{◌≡◌, ℤ, pos, w64, sym, ◌∙◌, subst}
use Rattle.kin_num.specs.Quadratic.{Quadratic}
use Rattle.kin_instant.specs.declared.roots.Roots.{Roots}
use Rattle.kin_instant.specs.Roots.{quadratic, AreRootsOf}
use Rattle.kin_instant.proofs.Widths.{clean, not_less_out, level_out}
use Rattle.kin_instant.proofs.Existence.{turned_answer}
use Rattle.kin_instant.proofs.solve.roots.Goals as goal

of_these : (p : Quadratic) (a b c : ℤ) (r : Roots) → a ≡ p.a → b ≡ p.b → c ≡ p.c → AreRootsOf (quadratic a b c) r → AreRootsOf p r
of_these p a b c r e f g h =
    subst (λ (x : ℤ). AreRootsOf (quadratic x p.b p.c) r) e (subst (λ (y : ℤ). AreRootsOf (quadratic a y p.c) r) f (subst (λ (z : ℤ). AreRootsOf (quadratic a b z) r) g h))

pub returns-then-a-lt0-clause-exact : goal.returns-then-a-lt0-clause-exact
returns-then-a-lt0-clause-exact c =
    (turned_answer c.args.p.now c.quadratic_roots-then-a-lt0.result (subst (λ (p : Quadratic). AreRootsOf p c.quadratic_roots-then-a-lt0.result) c.negative.ensures c.quadratic_roots-then-a-lt0.ensures)).exact

pub returns-then-a-lt0-clause-number : goal.returns-then-a-lt0-clause-number
returns-then-a-lt0-clause-number c =
    (turned_answer c.args.p.now c.quadratic_roots-then-a-lt0.result (subst (λ (p : Quadratic). AreRootsOf p c.quadratic_roots-then-a-lt0.result) c.negative.ensures c.quadratic_roots-then-a-lt0.ensures)).number

pub returns-else-a-lt0-clause-exact : goal.returns-else-a-lt0-clause-exact
returns-else-a-lt0-clause-exact c =
    let p = c.args.p.now in
    (of_these p (pos 0) _ _ c.line_roots.result
    (sym (level_out p.a _ (clean w64 c.a-a.result c.a-a.type_inv ∙ c.a-a.ensures.value) (not_less_out _ _ c.if-a-lt0.false) (not_less_out _ _ c.if-a-gt0.false)))
    (clean w64 c.b.result c.b.type_inv ∙ c.b.ensures.value) (clean w64 c.c.result c.c.type_inv ∙ c.c.ensures.value) c.line_roots.ensures).exact
