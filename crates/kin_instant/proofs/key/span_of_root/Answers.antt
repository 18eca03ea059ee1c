use Rattle.std.proofs.Common.{ℤ, ◌^◌, unsigned_abs, w64, arith, ap, ◌∙◌, subst}
use Rattle.kin_instant.specs.Keys.{half_numerator_of, IsCutOff}
use Rattle.kin_instant.proofs.Widths.{clean, read_within}
use Rattle.kin_instant.proofs.Spans.{span_at_root}
use Rattle.kin_instant.proofs.key.span_of_root.Goals as goal
use Rattle.kin_instant.proofs.Discriminants.{same_discriminant, read_real}

pub radicand-requires-clause-a_small : goal.radicand-requires-clause-a_small
radicand-requires-clause-a_small c = read_within w64 c.args.a (2 ^ 29) c.requires.a_small (omega arith)

pub radicand-requires-clause-b_small : goal.radicand-requires-clause-b_small
radicand-requires-clause-b_small c = read_within w64 c.args.b (2 ^ 31) c.requires.b_small (omega arith)

pub radicand-requires-clause-c_small : goal.radicand-requires-clause-c_small
radicand-requires-clause-c_small c = read_within w64 c.args.c (2 ^ 29) c.requires.c_small (omega arith)

pub radicand-requires-clause-real : goal.radicand-requires-clause-real
radicand-requires-clause-real c = read_real c.args.a c.args.b c.args.c (clean w64 c.args.a c.ranges.a.sfits) (clean w64 c.args.b c.ranges.b.sfits) (clean w64 c.args.c c.ranges.c.sfits) c.requires.irreducible.real

pub fine_root-root-requires-clause-small : goal.fine_root-root-requires-clause-small
fine_root-root-requires-clause-small c = c.radicand.ensures.small

pub returns : goal.returns
returns c =
    let a = clean w64 c.args.a c.ranges.a.sfits in
    let b = clean w64 c.args.b c.ranges.b.sfits in
    let square = c.radicand.ensures.value ∙ same_discriminant c.args.a c.args.b c.args.c _ _ _ a b (clean w64 c.args.c c.ranges.c.sfits) in
    let cut : IsCutOff c.numerator.result (half_numerator_of c.args.b c.fine_root-root.result c.args.upper) =
    subst (λ (z : ℤ). IsCutOff c.numerator.result (half_numerator_of z c.fine_root-root.result c.args.upper)) b c.numerator.ensures in
    span_at_root c.args.a c.args.b c.args.c c.unsigned_abs.result c.radicand.result c.fine_root-root.result c.numerator.result c.args.upper c.requires.irreducible (c.unsigned_abs.ensures.value ∙ ap unsigned_abs a) square c.fine_root-root.ensures cut
