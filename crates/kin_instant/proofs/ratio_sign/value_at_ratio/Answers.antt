use Rattle.std.proofs.Common.{◌≡◌, ◌≤◌, ◌<◌, ◌^◌, ℤ, ◌+ℤ◌, ◌*ℤ◌, unsigned_abs, to_z, of_z, w64, arith, ap, sym, ◌∙◌, subst}
use Rattle.std.proofs.lemmas.Int.{to_z-of_z}
use Rattle.kin_algebra.specs.Signs.{sign_of}
use mir.Syntax.{w128}
use Rattle.kin_algebra.proofs.Magnitudes.{size-product}
use Rattle.kin_instant.proofs.Widths.{clean, same_sums, product-raw, product-value}
use Rattle.kin_instant.proofs.Values.{sign_at_ratio-line, sign_at_ratio-value}
use Rattle.kin_instant.proofs.ratio_sign.value_at_ratio.Goals as goal

pub returns-then-a-eq0 : goal.returns-then-a-eq0
returns-then-a-eq0 c = c.of.ensures ∙ ap sign_of (grind (arith, to_z-of_z)) ∙ sym (sign_at_ratio-line c.args.p.now c.args.n c.args.d c.requires.d_positive (grind (arith, to_z-of_z)))

size : (c' c d : ℤ) → c' ≡ c → unsigned_abs c' ≤ 2 ^ 29 → unsigned_abs d ≤ 2 ^ 31 → unsigned_abs (c *ℤ d) ≤ 2 ^ 60
size c' c d e h k = size-product c d (2 ^ 29) (2 ^ 31) (subst (λ (z : ℤ). unsigned_abs z ≤ 2 ^ 29) e h) k

narrow : (z : ℤ) → unsigned_abs z ≤ 2 ^ 60 → unsigned_abs z < 2 ^ 63
narrow z h = omega arith

pub overflow_mul-c : goal.overflow_mul-c
overflow_mul-c c =
    product-raw w64 c.args.p.now.c c.args.d c.c-2.result c.args.d (clean w64 c.c-2.result c.c-2.type_inv ∙ c.c-2.ensures.value) (clean w64 c.args.d c.ranges.d.sfits) (narrow (c.args.p.now.c *ℤ c.args.d) (size c.c-2.result c.args.p.now.c c.args.d c.c-2.ensures.value c.c-2.ensures.small c.requires.d_small))

pub wide_sum_of_products-requires-clause-a_small : goal.wide_sum_of_products-requires-clause-a_small
wide_sum_of_products-requires-clause-a_small c = grind (arith, to_z-of_z)

last : (c' c d : ℤ) → to_z w64 (of_z w64 c') ≡ c → to_z w64 (of_z w64 d) ≡ d → unsigned_abs (c *ℤ d) ≤ 2 ^ 60
    → unsigned_abs (to_z w64 (of_z w64 (to_z w64 (of_z w64 c') *ℤ to_z w64 (of_z w64 d)))) < 2 ^ 63
last c' c d e f h = rw (product-value w64 c d c' d e f (narrow (c *ℤ d) h)) (narrow (c *ℤ d) h)

pub wide_sum_of_products-requires-clause-c_small : goal.wide_sum_of_products-requires-clause-c_small
wide_sum_of_products-requires-clause-c_small c =
    last c.c-2.result c.args.p.now.c c.args.d (clean w64 c.c-2.result c.c-2.type_inv ∙ c.c-2.ensures.value) (clean w64 c.args.d c.ranges.d.sfits) (size c.c-2.result c.args.p.now.c c.args.d c.c-2.ensures.value c.c-2.ensures.small c.requires.d_small)

pub returns : goal.returns
returns c =
    let d = clean w64 c.args.d c.ranges.d.sfits in
    let n = clean w64 c.args.n c.ranges.n.sfits in
    let inner = clean w64 c.sum_of_products-inner.result c.sum_of_products-inner.type_inv ∙ c.sum_of_products-inner.ensures.value ∙ same_sums c.args.d c.args.p.now.b c.args.n c.args.p.now.a _ _ _ _ d (clean w64 c.b-2.result c.b-2.type_inv ∙ c.b-2.ensures.value) n (clean w64 c.a-2.result c.a-2.type_inv ∙ c.a-2.ensures.value) in
    let last = product-value w64 c.args.p.now.c c.args.d c.c-2.result c.args.d (clean w64 c.c-2.result c.c-2.type_inv ∙ c.c-2.ensures.value) d (narrow (c.args.p.now.c *ℤ c.args.d) (size c.c-2.result c.args.p.now.c c.args.d c.c-2.ensures.value c.c-2.ensures.small c.requires.d_small)) in
    c.of-2.ensures ∙ ap sign_of (clean w128 c.wide_sum_of_products.result c.wide_sum_of_products.type_inv ∙ c.wide_sum_of_products.ensures ∙ same_sums (c.args.d *ℤ c.args.p.now.b +ℤ c.args.n *ℤ c.args.p.now.a) c.args.n (c.args.p.now.c *ℤ c.args.d) c.args.d _ _ _ _ inner n last d) ∙ sym (sign_at_ratio-value c.args.p.now c.args.n c.args.d)
