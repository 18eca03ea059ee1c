use Rattle.std.proofs.Common.{arith, pos, ◌∙◌, subst, sym, w64}
use Rattle.kin_num.specs.Canonical.{IsCanonical}
use Rattle.kin_num.specs.declared.instant.Shape.TheVariants.{Ratio}
use Rattle.kin_instant.proofs.Widths.{clean}
use Rattle.kin_legs.proofs.BeginLaws.{whole_canonical}
use Rattle.kin_check.proofs.plan.whole.Goals as goal

pub of-requires : goal.of-requires
of-requires c = record {
  canonical = subst (λ n. IsCanonical (Ratio n (pos 1))) (sym (clean w64 c.from.result c.from.type_inv ∙ c.from.ensures)) (whole_canonical c.args.number (let low = c.requires in omega (arith, low)));
}
