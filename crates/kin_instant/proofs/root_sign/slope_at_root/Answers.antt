use Rattle.std.proofs.Common.{◌≡◌, ◌≤◌, ◌^◌, Bool, true, false, ℤ, pos, negsuc, ◌-ℤ◌, ◌*ℤ◌, unsigned_abs, to_z, of_z, w64, arith, ap, ap₂, sym, ◌∙◌}
use Rattle.std.specs.Prelude.{◌<ℤ◌}
use Rattle.std.proofs.lemmas.Int.{ints}
use Rattle.kin_instant.proofs.Widths.{clean, read_within}
use Rattle.kin_algebra.specs.Signs.{pair_sign_of}
use Rattle.kin_num.specs.declared.instant.Shape.TheVariants.{Root}
use Rattle.kin_num.specs.Quadratic.{Quadratic}
use Rattle.kin_num.specs.Canonical.{discriminant}
use Rattle.kin_num.specs.Instants.{sign_at_instant, derivative, number_of}
use Rattle.kin_instant.specs.Remainders.{remainder_slope_of}
use Rattle.kin_instant.proofs.Values.{sign_at_root-slope, same_remainder_slope}
use Rattle.kin_instant.proofs.root_sign.slope_at_root.Goals as goal
use Rattle.kin_instant.proofs.Discriminants.{same_discriminant, read_real}

pub pair_sign-requires-else-upper-clause-v_small : goal.pair_sign-requires-else-upper-clause-v_small
pair_sign-requires-else-upper-clause-v_small c = omega (arith, ints, c.a-else-upper.ensures.small)

one_times : (z : ℤ) → z ≡ pos 1 *ℤ z
one_times z = omega (arith, ints)

turned : (z' z : ℤ) → z' ≡ z → unsigned_abs z' ≤ 2 ^ 29 → to_z w64 (of_z w64 (pos 0 -ℤ to_z w64 (of_z w64 z'))) ≡ negsuc 0 *ℤ z
turned z' z e h = omega (arith, ints)

whole : (p : Quadratic) (a b c u v d : ℤ) (upper side : Bool) → upper ≡ side → pos 0 <ℤ a → pos 0 <ℤ discriminant a b c → u ≡ remainder_slope_of p a b → v ≡ (number_of (Root a b c side)).root *ℤ p.a → d ≡ discriminant a b c
    → pair_sign_of u v d ≡ sign_at_instant (derivative p) (Root a b c upper)
whole p a b c u v d upper side e h real i j k =
    ap₂ (λ (x y : ℤ). pair_sign_of x y d) i j ∙ ap (pair_sign_of (remainder_slope_of p a b) ((number_of (Root a b c side)).root *ℤ p.a)) k
    ∙ sym (sign_at_root-slope p a b c side h real) ∙ ap (λ (x : Bool). sign_at_instant (derivative p) (Root a b c x)) (sym e)

pub remainder_slope-slope-requires-clause-a_small : goal.remainder_slope-slope-requires-clause-a_small
remainder_slope-slope-requires-clause-a_small c = read_within w64 c.args.a (2 ^ 29) c.requires.a_small (omega arith)

pub remainder_slope-slope-requires-clause-b_small : goal.remainder_slope-slope-requires-clause-b_small
remainder_slope-slope-requires-clause-b_small c = read_within w64 c.args.b (2 ^ 31) c.requires.b_small (omega arith)

pub radicand-requires-clause-a_small : goal.radicand-requires-clause-a_small
radicand-requires-clause-a_small c = read_within w64 c.args.a (2 ^ 29) c.requires.a_small (omega arith)

pub radicand-requires-clause-b_small : goal.radicand-requires-clause-b_small
radicand-requires-clause-b_small c = read_within w64 c.args.b (2 ^ 31) c.requires.b_small (omega arith)

pub radicand-requires-clause-c_small : goal.radicand-requires-clause-c_small
radicand-requires-clause-c_small c = read_within w64 c.args.c (2 ^ 29) c.requires.c_small (omega arith)

pub radicand-requires-clause-real : goal.radicand-requires-clause-real
radicand-requires-clause-real c = read_real c.args.a c.args.b c.args.c (clean w64 c.args.a c.ranges.a.sfits) (clean w64 c.args.b c.ranges.b.sfits) (clean w64 c.args.c c.ranges.c.sfits) c.requires.real

pub pair_sign-requires-clause-u_small : goal.pair_sign-requires-clause-u_small
pair_sign-requires-clause-u_small c = omega (arith, read_within w64 c.remainder_slope-slope.result (2 ^ 61) c.remainder_slope-slope.ensures.size (omega arith))

pub pair_sign-requires-clause-d_small : goal.pair_sign-requires-clause-d_small
pair_sign-requires-clause-d_small c = c.radicand.ensures.small

pub radicand-requires-else-upper-clause-a_small : goal.radicand-requires-else-upper-clause-a_small
radicand-requires-else-upper-clause-a_small c = read_within w64 c.args.a (2 ^ 29) c.requires.a_small (omega arith)

pub radicand-requires-else-upper-clause-b_small : goal.radicand-requires-else-upper-clause-b_small
radicand-requires-else-upper-clause-b_small c = read_within w64 c.args.b (2 ^ 31) c.requires.b_small (omega arith)

pub radicand-requires-else-upper-clause-c_small : goal.radicand-requires-else-upper-clause-c_small
radicand-requires-else-upper-clause-c_small c = read_within w64 c.args.c (2 ^ 29) c.requires.c_small (omega arith)

pub radicand-requires-else-upper-clause-real : goal.radicand-requires-else-upper-clause-real
radicand-requires-else-upper-clause-real c = read_real c.args.a c.args.b c.args.c (clean w64 c.args.a c.ranges.a.sfits) (clean w64 c.args.b c.ranges.b.sfits) (clean w64 c.args.c c.ranges.c.sfits) c.requires.real

pub pair_sign-requires-else-upper-clause-u_small : goal.pair_sign-requires-else-upper-clause-u_small
pair_sign-requires-else-upper-clause-u_small c = omega (arith, read_within w64 c.remainder_slope-slope.result (2 ^ 61) c.remainder_slope-slope.ensures.size (omega arith))

pub pair_sign-requires-else-upper-clause-d_small : goal.pair_sign-requires-else-upper-clause-d_small
pair_sign-requires-else-upper-clause-d_small c = c.radicand-else-upper.ensures.small

pub pair_sign-requires-clause-v_small : goal.pair_sign-requires-clause-v_small
pair_sign-requires-clause-v_small c = read_within w64 c.a.result (2 ^ 31) (omega (arith, c.a.ensures.small)) (omega arith)

pub returns-then-upper : goal.returns-then-upper
returns-then-upper c =
    let a = clean w64 c.args.a c.ranges.a.sfits in
    let b = clean w64 c.args.b c.ranges.b.sfits in
    c.pair_sign.ensures
    ∙ whole c.args.p.now c.args.a c.args.b c.args.c _ _ _ c.args.upper true c.if-upper.true c.requires.a_positive c.requires.real
    (clean w64 c.remainder_slope-slope.result c.remainder_slope-slope.type_inv ∙ c.remainder_slope-slope.ensures.value ∙ same_remainder_slope c.args.p.now c.args.a c.args.b _ _ a b)
    (clean w64 c.a.result c.a.type_inv ∙ c.a.ensures.value ∙ one_times c.args.p.now.a)
    (c.radicand.ensures.value ∙ same_discriminant c.args.a c.args.b c.args.c _ _ _ a b (clean w64 c.args.c c.ranges.c.sfits))

pub returns-else-upper : goal.returns-else-upper
returns-else-upper c =
    let a = clean w64 c.args.a c.ranges.a.sfits in
    let b = clean w64 c.args.b c.ranges.b.sfits in
    c.pair_sign-else-upper.ensures
    ∙ whole c.args.p.now c.args.a c.args.b c.args.c _ _ _ c.args.upper false c.if-upper.false c.requires.a_positive c.requires.real
    (clean w64 c.remainder_slope-slope.result c.remainder_slope-slope.type_inv ∙ c.remainder_slope-slope.ensures.value ∙ same_remainder_slope c.args.p.now c.args.a c.args.b _ _ a b)
    (turned c.a-else-upper.result c.args.p.now.a c.a-else-upper.ensures.value c.a-else-upper.ensures.small)
    (c.radicand-else-upper.ensures.value ∙ same_discriminant c.args.a c.args.b c.args.c _ _ _ a b (clean w64 c.args.c c.ranges.c.sfits))
