use Rattle.std.proofs.Common.{◌≡◌, ◌≤◌, ◌^◌, ℤ, pos, ◌*ℤ◌, unsigned_abs, to_z, of_z, w64, arith, ◌∙◌}
use Rattle.std.proofs.lemmas.Int.{ints}
use Rattle.kin_instant.proofs.Widths.{clean, same_differences}
use Rattle.kin_instant.proofs.product.discriminant_of.Goals as goal

four : (a : ℤ) → unsigned_abs a ≤ 2 ^ 29 → to_z w64 (of_z w64 (pos 4 *ℤ to_z w64 (of_z w64 a))) ≡ pos 4 *ℤ a
four a h = omega (arith, ints)

pub returns : goal.returns
returns c =
    let b = clean w64 c.args.b c.ranges.b.sfits in
    clean w64 c.difference_of_products.result c.difference_of_products.type_inv ∙ c.difference_of_products.ensures.value
    ∙ same_differences c.args.b c.args.b (pos 4 *ℤ c.args.a) c.args.c _ _ _ _ b b (four c.args.a c.requires.a_small) (clean w64 c.args.c c.ranges.c.sfits)
