use Rattle.std.proofs.Common.{◌≡◌, ◌^◌, ℕ, ℤ, pos, unsigned_abs, w64, arith, ◌∙◌}
use Rattle.std.specs.Prelude.{◌<ℤ◌}
use Rattle.std.proofs.lemmas.Int.{ints}
use Rattle.kin_instant.proofs.Widths.{clean}
use Rattle.kin_instant.proofs.Discriminants.{discriminant_size, same_discriminant}
use Rattle.kin_num.specs.Canonical.{discriminant}
use Rattle.kin_instant.proofs.root_sign.radicand.Goals as goal

value : (d u : ℤ) (n : ℕ) → pos 0 <ℤ d → u ≡ d → n ≡ unsigned_abs u → pos n ≡ d
value d u n h e f = omega (arith, ints, e, f)

pub returns-clause-value : goal.returns-clause-value
returns-clause-value c =
    value (discriminant c.args.a c.args.b c.args.c) _ c.unsigned_abs.result c.requires.real
    (clean w64 c.discriminant_of.result c.discriminant_of.type_inv ∙ c.discriminant_of.ensures ∙ same_discriminant c.args.a c.args.b c.args.c _ _ _ (clean w64 c.args.a c.ranges.a.sfits) (clean w64 c.args.b c.ranges.b.sfits) (clean w64 c.args.c c.ranges.c.sfits))
    c.unsigned_abs.ensures.value

pub returns-clause-small : goal.returns-clause-small
returns-clause-small c = omega (arith, discriminant_size c.args.a c.args.b c.args.c (2 ^ 29) (2 ^ 31) (2 ^ 29) c.unsigned_abs.result c.requires.a_small c.requires.b_small c.requires.c_small (returns-clause-value c))
