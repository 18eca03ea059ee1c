use Rattle.std.proofs.Common.{◌≡◌, ◌<◌, ◌^◌, ◌*◌, ◌-◌, ℤ, ◌+ℤ◌, ◌*ℤ◌, unsigned_abs, FitsSigned, to_z, of_z, w64, arith, ◌∙◌, mul-le-mul}
use Rattle.std.proofs.lemmas.Int.{to_z-of_z}
use Rattle.kin_instant.proofs.Widths.{sum-fits, sum-value, wide_from_narrow, at_most}
use mir.Syntax.{w128}
use Rattle.kin_instant.proofs.product.wide_sum_of_products.Goals as goal

fits : (a b c d a' b' c' d' : ℤ) → unsigned_abs a < 2 ^ 63 → unsigned_abs b < 2 ^ 63 → unsigned_abs c < 2 ^ 63 → unsigned_abs d < 2 ^ 63 → a' ≡ a → b' ≡ b → c' ≡ c → d' ≡ d → FitsSigned w128 (to_z w128 (of_z w128 (to_z w128 (of_z w128 a') *ℤ to_z w128 (of_z w128 b'))) +ℤ to_z w128 (of_z w128 (to_z w128 (of_z w128 c') *ℤ to_z w128 (of_z w128 d'))))
fits a b c d a' b' c' d' p q r s ea eb ec ed = simp (ea, eb, ec, ed) (sum-fits w128 a b c d ((2 ^ 63 - 1) * (2 ^ 63 - 1)) ((2 ^ 63 - 1) * (2 ^ 63 - 1)) (wide_from_narrow a p) (wide_from_narrow b q) (wide_from_narrow c r) (wide_from_narrow d s) (omega (arith, mul-le-mul (at_most p) (at_most q))) (omega (arith, mul-le-mul (at_most r) (at_most s))) (omega arith))

value : (a b c d a' b' c' d' : ℤ) → unsigned_abs a < 2 ^ 63 → unsigned_abs b < 2 ^ 63 → unsigned_abs c < 2 ^ 63 → unsigned_abs d < 2 ^ 63 → a' ≡ a → b' ≡ b → c' ≡ c → d' ≡ d → to_z w128 (of_z w128 (to_z w128 (of_z w128 (to_z w128 (of_z w128 a') *ℤ to_z w128 (of_z w128 b'))) +ℤ to_z w128 (of_z w128 (to_z w128 (of_z w128 c') *ℤ to_z w128 (of_z w128 d'))))) ≡ a *ℤ b +ℤ c *ℤ d
value a b c d a' b' c' d' p q r s ea eb ec ed = simp (ea, eb, ec, ed) (sum-value w128 a b c d ((2 ^ 63 - 1) * (2 ^ 63 - 1)) ((2 ^ 63 - 1) * (2 ^ 63 - 1)) (wide_from_narrow a p) (wide_from_narrow b q) (wide_from_narrow c r) (wide_from_narrow d s) (omega (arith, mul-le-mul (at_most p) (at_most q))) (omega (arith, mul-le-mul (at_most r) (at_most s))) (omega arith))

pub overflow_add-result : goal.overflow_add-result
overflow_add-result c = fits c.args.a c.args.b c.args.c c.args.d _ _ _ _ c.requires.a_small c.requires.b_small c.requires.c_small c.requires.d_small (c.from.ensures ∙ to_z-of_z w64 c.args.a c.ranges.a) (c.from-2.ensures ∙ to_z-of_z w64 c.args.b c.ranges.b) (c.from-3.ensures ∙ to_z-of_z w64 c.args.c c.ranges.c) (c.from-4.ensures ∙ to_z-of_z w64 c.args.d c.ranges.d)

pub returns : goal.returns
returns c = value c.args.a c.args.b c.args.c c.args.d _ _ _ _ c.requires.a_small c.requires.b_small c.requires.c_small c.requires.d_small (c.from.ensures ∙ to_z-of_z w64 c.args.a c.ranges.a) (c.from-2.ensures ∙ to_z-of_z w64 c.args.b c.ranges.b) (c.from-3.ensures ∙ to_z-of_z w64 c.args.c c.ranges.c) (c.from-4.ensures ∙ to_z-of_z w64 c.args.d c.ranges.d)
