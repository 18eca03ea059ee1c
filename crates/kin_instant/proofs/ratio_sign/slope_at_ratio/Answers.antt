use Rattle.std.proofs.Common.{◌≡◌, ◌≤◌, ◌^◌, ℤ, pos, ◌*ℤ◌, unsigned_abs, to_z, of_z, w64, arith, ap, sym, ◌∙◌}
use Rattle.std.proofs.lemmas.Int.{ints}
use Rattle.kin_algebra.specs.Signs.{sign_of}
use mir.Syntax.{w128}
use Rattle.kin_instant.proofs.Widths.{clean, same_sums}
use Rattle.kin_instant.proofs.Values.{sign_at_ratio-slope}
use Rattle.kin_instant.proofs.ratio_sign.slope_at_ratio.Goals as goal

doubled : (a' a : ℤ) → a' ≡ a → unsigned_abs a' ≤ 2 ^ 29 → to_z w64 (of_z w64 (pos 2 *ℤ to_z w64 (of_z w64 a'))) ≡ pos 2 *ℤ a
doubled a' a e h = omega (arith, ints)

pub returns : goal.returns
returns c = c.of.ensures ∙ ap sign_of (clean w128 c.from.result c.from.type_inv ∙ c.from.ensures ∙ clean w64 c.sum_of_products.result c.sum_of_products.type_inv ∙ c.sum_of_products.ensures.value ∙ same_sums c.args.d c.args.p.now.b c.args.n (pos 2 *ℤ c.args.p.now.a) _ _ _ _ (clean w64 c.args.d c.ranges.d.sfits) (clean w64 c.b.result c.b.type_inv ∙ c.b.ensures.value) (clean w64 c.args.n c.ranges.n.sfits) (doubled c.a.result c.args.p.now.a c.a.ensures.value c.a.ensures.small)) ∙ sym (sign_at_ratio-slope c.args.p.now c.args.n c.args.d c.requires.d_positive)
