use Rattle.std.proofs.Common.{◌≡◌, ◌≤◌, ◌^◌, ℤ, pos, ◌-ℤ◌, ◌*ℤ◌, unsigned_abs, to_z, of_z, w64, arith, ap, sym, ◌∙◌}
use Rattle.std.proofs.lemmas.Int.{ints}
use mir.Syntax.{w128}
use Rattle.kin_instant.proofs.Widths.{clean, clean-abs, read_within, same_differences}
use Rattle.kin_algebra.specs.Signs.{sign_of, product_of}
use Rattle.kin_num.specs.Quadratic.{Quadratic}
use Rattle.kin_num.specs.Instants.{side}
use Rattle.kin_instant.specs.Remainders.{remainder_slope_of, remainder_start_of}
use Rattle.kin_instant.proofs.Values.{whole_of, resultant_of, sign_at_root-value, opposed-is, agreeing-is, same_remainder_slope}
use Rattle.kin_instant.proofs.root_sign.value_at_root.Goals as goal

same_start : (p : Quadratic) (a c a' c' : ℤ) → a' ≡ a → c' ≡ c → remainder_start_of p a' c' ≡ remainder_start_of p a c
same_start p a c a' c' e f = rw (e, f)

twice : (a : ℤ) → unsigned_abs a ≤ 2 ^ 29 → to_z w64 (of_z w64 (pos 2 *ℤ to_z w64 (of_z w64 a))) ≡ pos 2 *ℤ a
twice a h = omega (arith, ints)

same_resultant : (p : Quadratic) (b c s t b' c' s' t' : ℤ) → b' ≡ b → c' ≡ c → s' ≡ s → t' ≡ t → t' *ℤ t' -ℤ s' *ℤ (b' *ℤ p.c -ℤ p.b *ℤ c') ≡ t *ℤ t -ℤ s *ℤ (b *ℤ p.c -ℤ p.b *ℤ c)
same_resultant p b c s t b' c' s' t' e f g h = rw (e, f, g, h)

doubled : (a : ℤ) → unsigned_abs a ≤ 2 ^ 29 → unsigned_abs (pos 2 *ℤ to_z w64 (of_z w64 a)) ≤ 2 ^ 30
doubled a h = rw (clean-abs w64 a (omega arith)) (omega (arith, ints))

pub remainder_slope-slope-requires-clause-a_small : goal.remainder_slope-slope-requires-clause-a_small
remainder_slope-slope-requires-clause-a_small c = read_within w64 c.args.a (2 ^ 29) c.requires.a_small (omega arith)

pub remainder_slope-slope-requires-clause-b_small : goal.remainder_slope-slope-requires-clause-b_small
remainder_slope-slope-requires-clause-b_small c = read_within w64 c.args.b (2 ^ 31) c.requires.b_small (omega arith)

pub remainder_start-start-requires-clause-a_small : goal.remainder_start-start-requires-clause-a_small
remainder_start-start-requires-clause-a_small c = read_within w64 c.args.a (2 ^ 29) c.requires.a_small (omega arith)

pub remainder_start-start-requires-clause-c_small : goal.remainder_start-start-requires-clause-c_small
remainder_start-start-requires-clause-c_small c = read_within w64 c.args.c (2 ^ 29) c.requires.c_small (omega arith)

pub wide_difference_of_products-requires-clause-a_small : goal.wide_difference_of_products-requires-clause-a_small
wide_difference_of_products-requires-clause-a_small c = let twice = read_within w64 (pos 2 *ℤ to_z w64 (of_z w64 c.args.a)) (2 ^ 30) (doubled c.args.a c.requires.a_small) (omega arith) in omega arith

pub wide_difference_of_products-requires-clause-b_small : goal.wide_difference_of_products-requires-clause-b_small
wide_difference_of_products-requires-clause-b_small c = let start = read_within w64 c.remainder_start-start.result (2 ^ 61) c.remainder_start-start.ensures.size (omega arith) in omega arith

pub wide_difference_of_products-requires-clause-c_small : goal.wide_difference_of_products-requires-clause-c_small
wide_difference_of_products-requires-clause-c_small c = let b = read_within w64 c.args.b (2 ^ 31) c.requires.b_small (omega arith) in omega arith

pub wide_difference_of_products-requires-clause-d_small : goal.wide_difference_of_products-requires-clause-d_small
wide_difference_of_products-requires-clause-d_small c = let slope = read_within w64 c.remainder_slope-slope.result (2 ^ 61) c.remainder_slope-slope.ensures.size (omega arith) in omega arith

pub resultant_sign-requires-clause-b_small : goal.resultant_sign-requires-clause-b_small
resultant_sign-requires-clause-b_small c = read_within w64 c.args.b (2 ^ 31) c.requires.b_small (omega arith)

pub resultant_sign-requires-clause-c_small : goal.resultant_sign-requires-clause-c_small
resultant_sign-requires-clause-c_small c = read_within w64 c.args.c (2 ^ 29) c.requires.c_small (omega arith)

pub resultant_sign-requires-clause-slope_small : goal.resultant_sign-requires-clause-slope_small
resultant_sign-requires-clause-slope_small c = read_within w64 c.remainder_slope-slope.result (2 ^ 61) c.remainder_slope-slope.ensures.size (omega arith)

pub resultant_sign-requires-clause-start_small : goal.resultant_sign-requires-clause-start_small
resultant_sign-requires-clause-start_small c = read_within w64 c.remainder_start-start.result (2 ^ 61) c.remainder_start-start.ensures.size (omega arith)

pub returns-in-Minus : goal.returns-in-Minus
returns-in-Minus c =
    let a = clean w64 c.args.a c.ranges.a.sfits in
    let b = clean w64 c.args.b c.ranges.b.sfits in
    let d = clean w64 c.args.c c.ranges.c.sfits in
    let slope = clean w64 c.remainder_slope-slope.result c.remainder_slope-slope.type_inv ∙ c.remainder_slope-slope.ensures.value ∙ same_remainder_slope c.args.p.now c.args.a c.args.b _ _ a b in
    let start = clean w64 c.remainder_start-start.result c.remainder_start-start.type_inv ∙ c.remainder_start-start.ensures.value ∙ same_start c.args.p.now c.args.a c.args.c _ _ a d in
    c.times-in-Minus.ensures
    ∙ opposed-is _ _ _ (sign_of (whole_of c.args.p.now c.args.a c.args.b c.args.c)) (product_of (side c.args.upper) (sign_of (remainder_slope_of c.args.p.now c.args.a c.args.b))) (sign_of (resultant_of c.args.p.now c.args.a c.args.b c.args.c)) _
    (c.of-whole.ensures ∙ ap sign_of (clean w128 c.wide_difference_of_products.result c.wide_difference_of_products.type_inv ∙ c.wide_difference_of_products.ensures ∙ same_differences (pos 2 *ℤ c.args.a) (remainder_start_of c.args.p.now c.args.a c.args.c) c.args.b (remainder_slope_of c.args.p.now c.args.a c.args.b) _ _ _ _ (twice c.args.a c.requires.a_small) start b slope))
    (c.on_side-surd.ensures ∙ ap (product_of (side c.args.upper)) (c.of.ensures ∙ ap sign_of (clean w128 c.from.result c.from.type_inv ∙ c.from.ensures ∙ slope)))
    (c.resultant_sign.ensures ∙ ap sign_of (same_resultant c.args.p.now c.args.b c.args.c (remainder_slope_of c.args.p.now c.args.a c.args.b) (remainder_start_of c.args.p.now c.args.a c.args.c) _ _ _ _ b d slope start))
    (sign_at_root-value c.args.p.now c.args.a c.args.b c.args.c c.args.upper c.requires.a_positive c.requires.real)
    (sym c.times.ensures ∙ c.in-Minus.is)

pub returns-in_default : goal.returns-in_default
returns-in_default c =
    let a = clean w64 c.args.a c.ranges.a.sfits in
    let b = clean w64 c.args.b c.ranges.b.sfits in
    let d = clean w64 c.args.c c.ranges.c.sfits in
    let slope = clean w64 c.remainder_slope-slope.result c.remainder_slope-slope.type_inv ∙ c.remainder_slope-slope.ensures.value ∙ same_remainder_slope c.args.p.now c.args.a c.args.b _ _ a b in
    let start = clean w64 c.remainder_start-start.result c.remainder_start-start.type_inv ∙ c.remainder_start-start.ensures.value ∙ same_start c.args.p.now c.args.a c.args.c _ _ a d in
    c.then.ensures
    ∙ agreeing-is _ _ (sign_of (whole_of c.args.p.now c.args.a c.args.b c.args.c)) (product_of (side c.args.upper) (sign_of (remainder_slope_of c.args.p.now c.args.a c.args.b))) (sign_of (resultant_of c.args.p.now c.args.a c.args.b c.args.c)) _
    (c.of-whole.ensures ∙ ap sign_of (clean w128 c.wide_difference_of_products.result c.wide_difference_of_products.type_inv ∙ c.wide_difference_of_products.ensures ∙ same_differences (pos 2 *ℤ c.args.a) (remainder_start_of c.args.p.now c.args.a c.args.c) c.args.b (remainder_slope_of c.args.p.now c.args.a c.args.b) _ _ _ _ (twice c.args.a c.requires.a_small) start b slope))
    (c.on_side-surd.ensures ∙ ap (product_of (side c.args.upper)) (c.of.ensures ∙ ap sign_of (clean w128 c.from.result c.from.type_inv ∙ c.from.ensures ∙ slope)))
    (sign_at_root-value c.args.p.now c.args.a c.args.b c.args.c c.args.upper c.requires.a_positive c.requires.real)
    (λ e. c.in_default.not-Minus (c.times.ensures ∙ e))
