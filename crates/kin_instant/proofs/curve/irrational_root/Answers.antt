use Rattle.std.proofs.Common.{◌≡◌, Bool, true, false, Some, refl, ℤ, ◌*ℤ◌, unsigned_abs, w64, ap, sym, ◌∙◌, subst}
use Rattle.std.specs.Int.{◌∣◌}
use Rattle.kin_instant.specs.Sides.{root_on}
use Rattle.kin_num.specs.declared.instant.Shape.{Shape}
use Rattle.kin_num.specs.declared.instant.Shape.TheVariants.{Root}
use Rattle.kin_num.specs.Canonical.{IsCanonical}
use Rattle.kin_instant.specs.declared.roots.Roots.TheVariants.{Two}
use Rattle.kin_instant.proofs.Widths.{clean}
use Rattle.kin_instant.proofs.RootsOf.{two_surds}
use Rattle.kin_instant.proofs.Divided.{canonical}
use Rattle.kin_instant.proofs.curve.irrational_root.Goals as goal

divides : (x x' g g' : ℤ) → x' ≡ x → g' ≡ g → unsigned_abs g ∣ unsigned_abs x → unsigned_abs g' ∣ unsigned_abs x'
divides x x' g g' e f d = subst (λ (z : ℤ). unsigned_abs z ∣ unsigned_abs x') (sym f) (subst (λ (z : ℤ). unsigned_abs g ∣ unsigned_abs z) (sym e) d)

quotient : (x x' q g g' : ℤ) → x' ≡ x → g' ≡ g → x' ≡ q *ℤ g' → x ≡ q *ℤ g
quotient x x' q g g' e f h = sym e ∙ h ∙ ap (λ (z : ℤ). q *ℤ z) f

read : (a b c a' b' c' : ℤ) (upper : Bool) → a' ≡ a → b' ≡ b → c' ≡ c → Root a' b' c' upper ≡ Root a b c upper
read a b c a' b' c' upper e f l = ap (λ (x : ℤ). Root x b' c' upper) e ∙ ap (λ (x : ℤ). Root a x c' upper) f ∙ ap (λ (x : ℤ). Root a b x upper) l

pub exact_quotient-a-requires-clause-divides : goal.exact_quotient-a-requires-clause-divides
exact_quotient-a-requires-clause-divides c = divides c.args.a _ c.common_divisor-divisor.result _ (clean w64 c.args.a c.ranges.a.sfits) (clean w64 c.common_divisor-divisor.result c.common_divisor-divisor.type_inv) (subst (λ (z : ℤ). unsigned_abs c.common_divisor-divisor.result ∣ unsigned_abs z) (clean w64 c.args.a c.ranges.a.sfits) c.common_divisor-divisor.ensures.divides_a)

pub exact_quotient-b-requires-clause-divides : goal.exact_quotient-b-requires-clause-divides
exact_quotient-b-requires-clause-divides c = divides c.args.b _ c.common_divisor-divisor.result _ (clean w64 c.args.b c.ranges.b.sfits) (clean w64 c.common_divisor-divisor.result c.common_divisor-divisor.type_inv) (subst (λ (z : ℤ). unsigned_abs c.common_divisor-divisor.result ∣ unsigned_abs z) (clean w64 c.args.b c.ranges.b.sfits) c.common_divisor-divisor.ensures.divides_b)

pub exact_quotient-c-requires-clause-divides : goal.exact_quotient-c-requires-clause-divides
exact_quotient-c-requires-clause-divides c = divides c.args.c _ c.common_divisor-divisor.result _ (clean w64 c.args.c c.ranges.c.sfits) (clean w64 c.common_divisor-divisor.result c.common_divisor-divisor.type_inv) (subst (λ (z : ℤ). unsigned_abs c.common_divisor-divisor.result ∣ unsigned_abs z) (clean w64 c.args.c c.ranges.c.sfits) c.common_divisor-divisor.ensures.divides_c)

pub of-requires : goal.of-requires
of-requires c = record { canonical = subst IsCanonical (sym (read c.exact_quotient-a.result c.exact_quotient-b.result c.exact_quotient-c.result _ _ _ c.args.upper (clean w64 c.exact_quotient-a.result c.exact_quotient-a.type_inv) (clean w64 c.exact_quotient-b.result c.exact_quotient-b.type_inv) (clean w64 c.exact_quotient-c.result c.exact_quotient-c.type_inv))) (canonical c.args.a c.args.b c.args.c c.exact_quotient-a.result c.exact_quotient-b.result c.exact_quotient-c.result c.common_divisor-divisor.result c.args.upper c.common_divisor-divisor.ensures.positive c.requires.a_positive c.requires.small c.requires.real c.requires.irrational (λ k p q r. c.common_divisor-divisor.ensures.greatest k (subst (λ (z : ℤ). k ∣ unsigned_abs z) (sym (clean w64 c.args.a c.ranges.a.sfits)) p) (subst (λ (z : ℤ). k ∣ unsigned_abs z) (sym (clean w64 c.args.b c.ranges.b.sfits)) q) (subst (λ (z : ℤ). k ∣ unsigned_abs z) (sym (clean w64 c.args.c c.ranges.c.sfits)) r)) (quotient c.args.a _ c.exact_quotient-a.result c.common_divisor-divisor.result _ (clean w64 c.args.a c.ranges.a.sfits) (clean w64 c.common_divisor-divisor.result c.common_divisor-divisor.type_inv) c.exact_quotient-a.ensures) (quotient c.args.b _ c.exact_quotient-b.result c.common_divisor-divisor.result _ (clean w64 c.args.b c.ranges.b.sfits) (clean w64 c.common_divisor-divisor.result c.common_divisor-divisor.type_inv) c.exact_quotient-b.ensures) (quotient c.args.c _ c.exact_quotient-c.result c.common_divisor-divisor.result _ (clean w64 c.args.c c.ranges.c.sfits) (clean w64 c.common_divisor-divisor.result c.common_divisor-divisor.type_inv) c.exact_quotient-c.ensures)) }

side : (a b c : ℤ) (upper : Bool) → Some (Root a b c upper) ≡ root_on upper (Two (Root a b c false) (Root a b c true))
side a b c false = refl
side a b c true = refl

pub returns : goal.returns
returns c = record {
  answer = Two (Root c.exact_quotient-a.result c.exact_quotient-b.result c.exact_quotient-c.result false) (Root c.exact_quotient-a.result c.exact_quotient-b.result c.exact_quotient-c.result true);
  roots = (two_surds c.args.a c.args.b c.args.c c.common_divisor-divisor.result c.exact_quotient-a.result c.exact_quotient-b.result c.exact_quotient-c.result c.requires.a_positive c.requires.real c.common_divisor-divisor.ensures.positive
      (quotient c.args.a _ c.exact_quotient-a.result c.common_divisor-divisor.result _ (clean w64 c.args.a c.ranges.a.sfits) (clean w64 c.common_divisor-divisor.result c.common_divisor-divisor.type_inv) c.exact_quotient-a.ensures) (quotient c.args.b _ c.exact_quotient-b.result c.common_divisor-divisor.result _ (clean w64 c.args.b c.ranges.b.sfits) (clean w64 c.common_divisor-divisor.result c.common_divisor-divisor.type_inv) c.exact_quotient-b.ensures) (quotient c.args.c _ c.exact_quotient-c.result c.common_divisor-divisor.result _ (clean w64 c.args.c c.ranges.c.sfits) (clean w64 c.common_divisor-divisor.result c.common_divisor-divisor.type_inv) c.exact_quotient-c.ensures) (canonical c.args.a c.args.b c.args.c c.exact_quotient-a.result c.exact_quotient-b.result c.exact_quotient-c.result c.common_divisor-divisor.result false c.common_divisor-divisor.ensures.positive c.requires.a_positive c.requires.small c.requires.real c.requires.irrational (λ k p q r. c.common_divisor-divisor.ensures.greatest k (subst (λ (z : ℤ). k ∣ unsigned_abs z) (sym (clean w64 c.args.a c.ranges.a.sfits)) p) (subst (λ (z : ℤ). k ∣ unsigned_abs z) (sym (clean w64 c.args.b c.ranges.b.sfits)) q) (subst (λ (z : ℤ). k ∣ unsigned_abs z) (sym (clean w64 c.args.c c.ranges.c.sfits)) r)) (quotient c.args.a _ c.exact_quotient-a.result c.common_divisor-divisor.result _ (clean w64 c.args.a c.ranges.a.sfits) (clean w64 c.common_divisor-divisor.result c.common_divisor-divisor.type_inv) c.exact_quotient-a.ensures) (quotient c.args.b _ c.exact_quotient-b.result c.common_divisor-divisor.result _ (clean w64 c.args.b c.ranges.b.sfits) (clean w64 c.common_divisor-divisor.result c.common_divisor-divisor.type_inv) c.exact_quotient-b.ensures) (quotient c.args.c _ c.exact_quotient-c.result c.common_divisor-divisor.result _ (clean w64 c.args.c c.ranges.c.sfits) (clean w64 c.common_divisor-divisor.result c.common_divisor-divisor.type_inv) c.exact_quotient-c.ensures)));
  same =
      ap (λ (r : Shape). Some r) (c.of.ensures ∙ read c.exact_quotient-a.result c.exact_quotient-b.result c.exact_quotient-c.result _ _ _ c.args.upper (clean w64 c.exact_quotient-a.result c.exact_quotient-a.type_inv) (clean w64 c.exact_quotient-b.result c.exact_quotient-b.type_inv) (clean w64 c.exact_quotient-c.result c.exact_quotient-c.type_inv))
      ∙ side c.exact_quotient-a.result c.exact_quotient-b.result c.exact_quotient-c.result c.args.upper;
}
