use Rattle.std.proofs.Common.{◌≡◌, zero, suc, ◌<◌, ◌≤◌, ◌^◌, ℤ, pos, negsuc, ◌-ℤ◌, ◌*ℤ◌, unsigned_abs, w64, to_z, of_z, arith, true, false, Some, refl, sym, ◌∙◌, subst}
use Rattle.std.specs.Prelude.{◌<ℤ◌, ◌≤ℤ◌}
use Rattle.std.proofs.lemmas.Int.{ints}
use lib.IntN.{neg_ℤ}
use Rattle.kin_num.specs.declared.instant.Shape.{Shape}
use Rattle.kin_num.specs.Quadratic.{Quadratic, IsSmall}
use Rattle.kin_num.specs.Canonical.{IsCanonical, discriminant}
use Rattle.kin_instant.specs.declared.roots.Roots.TheVariants.{One, Two}
use Rattle.kin_instant.specs.Roots.{quadratic, IsFraction}
use Rattle.kin_instant.specs.Sides.{IsRootOn}
use Rattle.kin_instant.proofs.Widths.{clean, clean-abs, small_difference-value, doubled-value}
use Rattle.kin_instant.proofs.RootsOf.{one_root_above, double_root, two_fractions, fraction_read}
use Rattle.kin_instant.proofs.Zeros.{doubled_positive}
use Rattle.kin_instant.proofs.RationalRoots.{upper_small, lower_small}
use Rattle.kin_instant.proofs.Existence.{ratio_exists}
use Rattle.kin_instant.proofs.curve.rational_root.Goals as goal

-- the two roots, of which one is made
module _ (a b c root : ℤ) (h : pos 0 <ℤ a) (small : IsSmall (quadratic a b c)) (some : pos 0 ≤ℤ root) (e : root *ℤ root ≡ discriminant a b c) (r : Shape) (k : IsCanonical r) where
  more : (x : ℤ) → root ≡ x → pos 0 <ℤ x → pos 0 <ℤ root
  more x f l = subst (λ (z : ℤ). pos 0 <ℤ z) (sym f) l

  upper_root : IsFraction (root -ℤ b) (pos 2 *ℤ a) r → IsRootOn (quadratic a b c) true (Some r)
  upper_root f = by_root root refl
    where
      by_root : (x : ℤ) → root ≡ x → IsRootOn (quadratic a b c) true (Some r)
      by_root (pos zero) z = record { answer = One r; roots = double_root a b c root h e z r f k; same = refl }
      by_root (pos (suc n)) z =
          let l = ratio_exists (neg_ℤ root -ℤ b) (pos 2 *ℤ a) (doubled_positive a h) (lower_small a b c root h small e) in
          record { answer = Two l.0 r; roots = two_fractions a b c root h e (more (pos (suc n)) z (omega (arith, ints))) l.0 r l.1 f l.2 k; same = refl }
      by_root (negsuc n) z = absurd (omega (arith, ints, some, z))

  lower_root : IsFraction (neg_ℤ root -ℤ b) (pos 2 *ℤ a) r → IsRootOn (quadratic a b c) false (Some r)
  lower_root f = by_root root refl
    where
      by_root : (x : ℤ) → root ≡ x → IsRootOn (quadratic a b c) false (Some r)
      by_root (pos zero) z = record { answer = One r; roots = double_root a b c root h e z r (fraction_read (root -ℤ b) (pos 2 *ℤ a) (neg_ℤ root -ℤ b) (pos 2 *ℤ a) r (one_root_above root b z) refl f) k; same = refl }
      by_root (pos (suc n)) z =
          let u = ratio_exists (root -ℤ b) (pos 2 *ℤ a) (doubled_positive a h) (upper_small a b c root h small e) in
          record { answer = Two r u.0; roots = two_fractions a b c root h e (more (pos (suc n)) z (omega (arith, ints))) r u.0 f u.1 k u.2; same = refl }
      by_root (negsuc n) z = absurd (omega (arith, ints, some, z))

-- ---- what the code has
abbrev as_read : ℤ → ℤ
as_read x = to_z w64 (of_z w64 x)

module _ (p : Quadratic) (root a' b' : ℤ) (small : IsSmall p) (h : unsigned_abs root < 2 ^ 32) (a_is : a' ≡ p.a) (b_is : b' ≡ p.b) where
  double : as_read (pos 2 *ℤ a') ≡ pos 2 *ℤ p.a
  double = doubled-value p.a a' a_is (omega (arith, small.a_small))

  upper : as_read (as_read root -ℤ b') ≡ root -ℤ p.b
  upper = small_difference-value root p.b (as_read root) b' (clean-abs w64 root (omega (arith, h))) b_is (omega (arith, h)) (omega (arith, small.b_small))

  lower : as_read (as_read (pos 0 -ℤ as_read root) -ℤ b') ≡ neg_ℤ root -ℤ p.b
  lower =
      small_difference-value (pos 0 -ℤ root) p.b (as_read (pos 0 -ℤ as_read root)) b'
      (small_difference-value (pos 0) root (pos 0) (as_read root) refl (clean-abs w64 root (omega (arith, h))) (omega arith) (omega (arith, h)))
      b_is (opposite_size root h) (omega (arith, small.b_small))
      ∙ as_negative root p.b
    where
      opposite_size : (x : ℤ) → unsigned_abs x < 2 ^ 32 → unsigned_abs (pos 0 -ℤ x) ≤ 2 ^ 32
      opposite_size x h = omega (arith, ints)

      as_negative : (x y : ℤ) → (pos 0 -ℤ x) -ℤ y ≡ neg_ℤ x -ℤ y
      as_negative x y = omega (arith, ints)

pub reduced-requires-clause-small : goal.reduced-requires-clause-small
reduced-requires-clause-small c =
    let p = c.args.p.now in
    let k = c.recall_small.ensures in
    let a = clean w64 c.a-a.result c.a-a.type_inv ∙ c.a-a.ensures.value in
    let b = clean w64 c.b-b.result c.b-b.type_inv ∙ c.b-b.ensures.value in
    rw (upper p c.args.root _ _ k c.requires.root_small a b, double p c.args.root _ _ k c.requires.root_small a b) (upper_small p.a p.b p.c c.args.root c.requires.a_positive k c.requires.square)

pub reduced-requires-else-upper-clause-small : goal.reduced-requires-else-upper-clause-small
reduced-requires-else-upper-clause-small c =
    let p = c.args.p.now in
    let k = c.recall_small.ensures in
    let a = clean w64 c.a-a.result c.a-a.type_inv ∙ c.a-a.ensures.value in
    let b = clean w64 c.b-b.result c.b-b.type_inv ∙ c.b-b.ensures.value in
    rw (lower p c.args.root _ _ k c.requires.root_small a b, double p c.args.root _ _ k c.requires.root_small a b) (lower_small p.a p.b p.c c.args.root c.requires.a_positive k c.requires.square)

pub reduced-requires-else-upper-clause-n_fits : goal.reduced-requires-else-upper-clause-n_fits
reduced-requires-else-upper-clause-n_fits c =
    let p = c.args.p.now in
    let k = c.recall_small.ensures in
    let a = clean w64 c.a-a.result c.a-a.type_inv ∙ c.a-a.ensures.value in
    let b = clean w64 c.b-b.result c.b-b.type_inv ∙ c.b-b.ensures.value in
    rw (lower p c.args.root _ _ k c.requires.root_small a b) (fits c.args.root p.b c.requires.root_small k.b_small)
  where
    fits : (x y : ℤ) → unsigned_abs x < 2 ^ 32 → unsigned_abs y ≤ 2 ^ 31 → unsigned_abs (neg_ℤ x -ℤ y) < 2 ^ 63
    fits x y h k = omega (arith, ints, h, k)

pub returns-then-upper : goal.returns-then-upper
returns-then-upper c =
    let p = c.args.p.now in
    let k = c.recall_small.ensures in
    let a = clean w64 c.a-a.result c.a-a.type_inv ∙ c.a-a.ensures.value in
    let b = clean w64 c.b-b.result c.b-b.type_inv ∙ c.b-b.ensures.value in
    subst (λ u. IsRootOn p u (Some c.reduced.result)) (sym c.if-upper.true)
    (upper_root p.a p.b p.c c.args.root c.requires.a_positive k c.requires.root_positive c.requires.square c.reduced.result c.reduced.ensures.canonical
    (fraction_read (c.args.root -ℤ p.b) (pos 2 *ℤ p.a) _ _ c.reduced.result
    (upper p c.args.root _ _ k c.requires.root_small a b) (double p c.args.root _ _ k c.requires.root_small a b) c.reduced.ensures.value))

pub returns-else-upper : goal.returns-else-upper
returns-else-upper c =
    let p = c.args.p.now in
    let k = c.recall_small.ensures in
    let a = clean w64 c.a-a.result c.a-a.type_inv ∙ c.a-a.ensures.value in
    let b = clean w64 c.b-b.result c.b-b.type_inv ∙ c.b-b.ensures.value in
    subst (λ u. IsRootOn p u (Some c.reduced-else-upper.result)) (sym c.if-upper.false)
    (lower_root p.a p.b p.c c.args.root c.requires.a_positive k c.requires.root_positive c.requires.square c.reduced-else-upper.result c.reduced-else-upper.ensures.canonical
    (fraction_read (neg_ℤ c.args.root -ℤ p.b) (pos 2 *ℤ p.a) _ _ c.reduced-else-upper.result
    (lower p c.args.root _ _ k c.requires.root_small a b) (double p c.args.root _ _ k c.requires.root_small a b) c.reduced-else-upper.ensures.value))
