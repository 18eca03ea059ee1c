use Rattle.std.proofs.Common.{◌≡◌, ℤ, ◌*ℤ◌, w64, to_z, of_z, arith, ap, sym, ◌∙◌}
use Rattle.kin_num.specs.declared.instant.Shape.TheVariants.{Ratio}
use Rattle.kin_num.specs.Canonical.{IsCanonical, IsLowest}
use Rattle.kin_instant.specs.Roots.{IsSmallInLowestTerms}
use Rattle.kin_instant.proofs.Widths.{clean, clean-abs}
use Rattle.kin_instant.proofs.ratio.reduced.Goals as goal

abbrev as_read : ℤ → ℤ
as_read x = to_z w64 (of_z w64 x)

canonical : (n d m e : ℤ) → as_read n ≡ n → as_read d ≡ d → IsSmallInLowestTerms n d → IsLowest m e → m *ℤ as_read d ≡ as_read n *ℤ e → IsCanonical (Ratio (as_read m) (as_read e))
canonical n d m e p q small lowest same =
    let k = small m e lowest (ap (λ (z : ℤ). m *ℤ z) (sym q) ∙ same ∙ ap (λ (z : ℤ). z *ℤ e) p) in
    rw (clean-abs w64 m (omega (arith, k.n_small)), clean-abs w64 e (omega (arith, k.d_small))) (record { form = lowest; small = k })

pub of-requires : goal.of-requires
of-requires c =
    let n = clean w64 c.args.n c.ranges.n.sfits in
    let d = clean w64 c.args.d c.ranges.d.sfits in
    record { canonical = canonical c.args.n c.args.d c.lowest-n.result.0 c.lowest-n.result.1 n d c.requires.small c.lowest-n.ensures.lowest c.lowest-n.ensures.same }
