-- Where a polynomial has sign 0 at a canonical instant.
use Rattle.std.proofs.Common.{◌≡◌, ◌≢◌, inr, Bool, true, false, [], ◌∷◌, refl, sym, ap, ap₂, ◌∙◌, arith}
use Rattle.std.specs.Prelude.{ℤ, pos, ◌+ℤ◌, ◌-ℤ◌, ◌*ℤ◌}
use Rattle.std.proofs.lemmas.Int.{ints}
use lib.IntN.{neg_ℤ}
use Rattle.kin_algebra.proofs.Magnitudes.{same_from_difference}
use Rattle.kin_algebra.specs.declared.sign.Sign.{Sign}
use Rattle.kin_algebra.specs.declared.sign.Sign.TheVariants.{Minus, Zero, Plus}
use Rattle.kin_algebra.specs.Signs.{sign_of, opposite_of, product_of, sum_sign_of, norm_of, pair_sign_of}
use Rattle.kin_algebra.proofs.Rings.{times_zero}
use Rattle.kin_algebra.proofs.Integers.{integers}
use Rattle.kin_algebra.proofs.Ring.{by_ring, quotes}
use Rattle.kin_algebra.proofs.Signs.{code}
use Rattle.kin_algebra.proofs.OrderedRings.{positive_product, scale}
use Rattle.kin_algebra.proofs.IntegerSigns.{ordered_integers, sign_of-negative, sign_in, zero_of}
use Rattle.kin_algebra.proofs.Radicals.{pair_of_zero}
use Rattle.kin_algebra.proofs.Pairs.{pair, pair_plus, pair_times, Sound, sign_over, sign_over-whole, ordered}
use Rattle.kin_num.specs.declared.instant.Shape.{Shape}
use Rattle.kin_num.specs.declared.instant.Shape.TheVariants.{Ratio, Root}
use Rattle.kin_num.specs.Quadratic.{Quadratic, quadratic}
use Rattle.kin_num.specs.Canonical.{IsCanonicalForm, IsIrreducible, discriminant}
use Rattle.kin_num.specs.Instants.{Number, number_of, sign_at_number, sign_at_instant, whole_part, root_part, derivative, side}
use Rattle.kin_num.proofs.Values.{value, irreducible-radical, canonical-sound}
use Rattle.kin_num.proofs.NumberRing.{flat}
use Rattle.kin_num.proofs.Divisors.{same_primitive}
use Rattle.kin_num.proofs.RootSigns.{pair_sign-positive, times_positive, double_plus}

-- the divisor of a canonical instant is positive
pub divisor-positive : (w : Shape) → IsCanonicalForm w → sign_of (number_of w).divisor ≡ Plus
divisor-positive (Ratio n d) i = sign_in Plus d i.positive
divisor-positive (Root a b c true) i = double_plus a b c i
divisor-positive (Root a b c false) i = double_plus a b c i

nothing_times : (k z : ℤ) → sign_of k ≡ Plus → k *ℤ z ≡ pos 0 → z ≡ pos 0
nothing_times k z e f = zero_of z (sym (times_positive k z e) ∙ ap sign_of f)

module _ (p : Quadratic) (a b c : ℤ) (i : IsIrreducible a b c) where
  abbrev r1 : ℤ
  r1 = a *ℤ p.b -ℤ p.a *ℤ b

  abbrev r0 : ℤ
  r0 = a *ℤ p.c -ℤ p.a *ℤ c

  -- the two parts of the value at a root, by the remainder r1*t + r0 of a*P
  upper_whole : (p2 p1 p0 a b c : ℤ) → whole_part (quadratic p2 p1 p0) (number_of (Root a b c true)) ≡ pos 2 *ℤ (pos 2 *ℤ a *ℤ (a *ℤ p0 -ℤ p2 *ℤ c) -ℤ b *ℤ (a *ℤ p1 -ℤ p2 *ℤ b))
  upper_whole p2 p1 p0 a b c = by_ring (p2 ∷ p1 ∷ p0 ∷ a ∷ b ∷ c ∷ []) _ _ (search quotes depth 30 fits 40000) (search quotes depth 30 fits 40000) refl

  upper_root : (p2 p1 p0 a b c : ℤ) → root_part (quadratic p2 p1 p0) (number_of (Root a b c true)) ≡ pos 2 *ℤ (a *ℤ p1 -ℤ p2 *ℤ b)
  upper_root p2 p1 p0 a b c = by_ring (p2 ∷ p1 ∷ p0 ∷ a ∷ b ∷ c ∷ []) _ _ (search quotes depth 30 fits 40000) (search quotes depth 30 fits 40000) refl

  lower_whole : (p2 p1 p0 a b c : ℤ) → whole_part (quadratic p2 p1 p0) (number_of (Root a b c false)) ≡ pos 2 *ℤ (pos 2 *ℤ a *ℤ (a *ℤ p0 -ℤ p2 *ℤ c) -ℤ b *ℤ (a *ℤ p1 -ℤ p2 *ℤ b))
  lower_whole p2 p1 p0 a b c = by_ring (p2 ∷ p1 ∷ p0 ∷ a ∷ b ∷ c ∷ []) _ _ (search quotes depth 30 fits 40000) (search quotes depth 30 fits 40000) refl

  lower_root : (p2 p1 p0 a b c : ℤ) → root_part (quadratic p2 p1 p0) (number_of (Root a b c false)) ≡ neg_ℤ (pos 2 *ℤ (a *ℤ p1 -ℤ p2 *ℤ b))
  lower_root p2 p1 p0 a b c = by_ring (p2 ∷ p1 ∷ p0 ∷ a ∷ b ∷ c ∷ []) _ _ (search quotes depth 30 fits 40000) (search quotes depth 30 fits 40000) refl

  no_negative : (z : ℤ) → neg_ℤ z ≡ pos 0 → z ≡ pos 0
  no_negative z e = omega (arith, ints)

  without_slope : (x y : ℤ) → x -ℤ b *ℤ y ≡ pos 0 → y ≡ pos 0 → x ≡ pos 0
  without_slope x y e f = sym (nothing_less x (b *ℤ y) (ap (λ z. b *ℤ z) f ∙ times_zero integers b)) ∙ e
    where
      nothing_less : (x z : ℤ) → z ≡ pos 0 → x -ℤ z ≡ x
      nothing_less x z e = omega (arith, ints)

  -- both parts of the remainder are 0
  abbrev IsMultiple : Type 0
  IsMultiple = (a *ℤ p.b ≡ p.a *ℤ b) × (a *ℤ p.c ≡ p.a *ℤ c)

  proportional : r1 ≡ pos 0 → pos 2 *ℤ (pos 2 *ℤ a *ℤ r0 -ℤ b *ℤ r1) ≡ pos 0 → IsMultiple
  proportional e f =
      let whole : pos 2 *ℤ a *ℤ r0 ≡ pos 0 = without_slope (pos 2 *ℤ a *ℤ r0) r1 (nothing_times (pos 2) (pos 2 *ℤ a *ℤ r0 -ℤ b *ℤ r1) refl f) e in
      (same_from_difference (a *ℤ p.b) (p.a *ℤ b) e, same_from_difference (a *ℤ p.c) (p.a *ℤ c) (nothing_times (pos 2 *ℤ a) r0 (double_plus a b c i) whole))

  both_zero : (u v : ℤ) → pair_sign_of u v (discriminant a b c) ≡ Zero → (u ≡ pos 0) × (v ≡ pos 0)
  both_zero u v e = pair_of_zero (discriminant a b c) (irreducible-radical a b c i) u v (sym (pair_sign-positive u v (discriminant a b c) i.real) ∙ e)

  -- a polynomial of sign 0 at a root is a multiple of the root's quadratic
  pub sign_zero_at_root : (upper : Bool) → sign_at_instant p (Root a b c upper) ≡ Zero → IsMultiple
  unfolding sign_at_instant
  sign_zero_at_root true e =
      let z = both_zero (whole_part p (number_of (Root a b c true))) (root_part p (number_of (Root a b c true))) e in
      proportional (nothing_times (pos 2) r1 refl (sym (upper_root p.a p.b p.c a b c) ∙ z.1)) (sym (upper_whole p.a p.b p.c a b c) ∙ z.0)
  sign_zero_at_root false e =
      let z = both_zero (whole_part p (number_of (Root a b c false))) (root_part p (number_of (Root a b c false))) e in
      proportional (nothing_times (pos 2) r1 refl (no_negative (pos 2 *ℤ r1) (sym (lower_root p.a p.b p.c a b c) ∙ z.1))) (sym (lower_whole p.a p.b p.c a b c) ∙ z.0)

-- a multiple of a quadratic is the square of its slope, less its discriminant
pub completed_square : (a b c : ℤ) (x : Number) →
    pair_times x.radicand (flat (pos 4 *ℤ a *ℤ (x.divisor *ℤ x.divisor))) (value (quadratic a b c) x)
    ≡ pair_plus (flat (neg_ℤ (discriminant a b c *ℤ ((x.divisor *ℤ x.divisor) *ℤ (x.divisor *ℤ x.divisor))))) (pair_times x.radicand (value (derivative (quadratic a b c)) x) (value (derivative (quadratic a b c)) x))
completed_square a b c x =
    ap₂ pair
    (by_ring (a ∷ b ∷ c ∷ x.whole ∷ x.root ∷ x.radicand ∷ x.divisor ∷ []) _ _ (search quotes depth 40 fits 80000) (search quotes depth 40 fits 80000) refl)
    (by_ring (a ∷ b ∷ c ∷ x.whole ∷ x.root ∷ x.radicand ∷ x.divisor ∷ []) _ _ (search quotes depth 40 fits 80000) (search quotes depth 40 fits 80000) refl)

module _ (a b c : ℤ) (i : IsIrreducible a b c) where
  abbrev D : ℤ
  D = discriminant a b c

  -- ---- at a fraction
  square_completed : (a b c n d : ℤ) → (pos 4 *ℤ a) *ℤ whole_part (quadratic a b c) (number_of (Ratio n d)) ≡ norm_of (pos 2 *ℤ a *ℤ n +ℤ b *ℤ d) d (discriminant a b c)
  square_completed a b c n d = by_ring (a ∷ b ∷ c ∷ n ∷ d ∷ []) _ _ (search quotes depth 30 fits 40000) (search quotes depth 30 fits 40000) refl

  -- an irreducible quadratic has no sign 0 at a fraction
  pub sign_zero_at_fraction : (n d : ℤ) → sign_of d ≡ Plus → sign_at_instant (quadratic a b c) (Ratio n d) ≢ Zero
  unfolding sign_at_instant
  sign_zero_at_fraction n d d_plus e =
      let none : whole_part (quadratic a b c) (number_of (Ratio n d)) ≡ pos 0 = zero_of _ e in
      let norm : norm_of (pos 2 *ℤ a *ℤ n +ℤ b *ℤ d) d D ≡ pos 0 = sym (square_completed a b c n d) ∙ ap (λ z. (pos 4 *ℤ a) *ℤ z) none ∙ times_zero integers (pos 4 *ℤ a) in
      code (sym d_plus ∙ ap sign_of ((irreducible-radical a b c i).alone (pos 2 *ℤ a *ℤ n +ℤ b *ℤ d) d norm).1)

  -- ---- at its own roots
  own_whole : (a b c : ℤ) → whole_part (derivative (quadratic a b c)) (number_of (Root a b c true)) ≡ pos 0
  own_whole a b c = by_ring (a ∷ b ∷ c ∷ []) _ _ (search quotes depth 30 fits 40000) (search quotes depth 30 fits 40000) refl

  own_whole' : (a b c : ℤ) → whole_part (derivative (quadratic a b c)) (number_of (Root a b c false)) ≡ pos 0
  own_whole' a b c = by_ring (a ∷ b ∷ c ∷ []) _ _ (search quotes depth 30 fits 40000) (search quotes depth 30 fits 40000) refl

  own_root : (a b c : ℤ) → root_part (derivative (quadratic a b c)) (number_of (Root a b c true)) ≡ (pos 2 *ℤ a) *ℤ (pos 2 *ℤ a)
  own_root a b c = by_ring (a ∷ b ∷ c ∷ []) _ _ (search quotes depth 30 fits 40000) (search quotes depth 30 fits 40000) refl

  own_root' : (a b c : ℤ) → root_part (derivative (quadratic a b c)) (number_of (Root a b c false)) ≡ neg_ℤ ((pos 2 *ℤ a) *ℤ (pos 2 *ℤ a))
  own_root' a b c = by_ring (a ∷ b ∷ c ∷ []) _ _ (search quotes depth 30 fits 40000) (search quotes depth 30 fits 40000) refl

  double_square : sign_of ((pos 2 *ℤ a) *ℤ (pos 2 *ℤ a)) ≡ Plus
  double_square = positive_product ordered_integers (double_plus a b c i) (double_plus a b c i)

  only_root : (u v : ℤ) (s : Sign) → u ≡ pos 0 → sign_of v ≡ s → pair_sign_of u v D ≡ s
  only_root u v s e f = pair_sign-positive u v D i.real ∙ ap (λ z. sum_sign_of (sign_of z) (sign_of v) (sign_of (norm_of u v D))) e ∙ f

  -- the slope of a quadratic is + at its greater root and - at its lesser one
  pub own_slope : (upper : Bool) → sign_at_instant (derivative (quadratic a b c)) (Root a b c upper) ≡ side upper
  unfolding sign_at_instant
  own_slope true = only_root _ _ Plus (own_whole a b c) (ap sign_of (own_root a b c) ∙ double_square)
  own_slope false = only_root _ _ Minus (own_whole' a b c) (ap sign_of (own_root' a b c) ∙ sign_of-negative ((pos 2 *ℤ a) *ℤ (pos 2 *ℤ a)) ∙ ap opposite_of double_square)

  -- ---- where the slope is 0 the value is negative
  level_sign : (x : Number) → Sound x.radicand → sign_of x.divisor ≡ Plus → sign_at_number (derivative (quadratic a b c)) x ≡ Zero → sign_at_number (quadratic a b c) x ≡ Minus
  level_sign x s q e =
      let o = ordered x.radicand s in
      let square = positive_product ordered_integers {a = x.divisor} q q in
      let four = positive_product ordered_integers {a = pos 4 *ℤ a} (times_positive (pos 4) a refl ∙ sign_in Plus a i.positive) square in
      let rest : sign_of (discriminant a b c *ℤ ((x.divisor *ℤ x.divisor) *ℤ (x.divisor *ℤ x.divisor))) ≡ Plus = positive_product ordered_integers {a = discriminant a b c} (sign_in Plus _ i.real) (positive_product ordered_integers {a = x.divisor *ℤ x.divisor} square square) in
      sym (scale o {a = flat (pos 4 *ℤ a *ℤ (x.divisor *ℤ x.divisor))} (value (quadratic a b c) x) (sign_over-whole x.radicand s (pos 4 *ℤ a *ℤ (x.divisor *ℤ x.divisor)) ∙ four))
      ∙ ap (sign_over x.radicand) (completed_square a b c x)
      ∙ o.sign_plus Minus (flat (neg_ℤ (discriminant a b c *ℤ ((x.divisor *ℤ x.divisor) *ℤ (x.divisor *ℤ x.divisor))))) _
      (sign_over-whole x.radicand s _ ∙ sign_of-negative (discriminant a b c *ℤ ((x.divisor *ℤ x.divisor) *ℤ (x.divisor *ℤ x.divisor))) ∙ ap opposite_of rest)
      (inr (o.sign_times (value (derivative (quadratic a b c)) x) (value (derivative (quadratic a b c)) x) ∙ ap₂ product_of e e))

  pub level_below : (w : Shape) → IsCanonicalForm w → sign_at_instant (derivative (quadratic a b c)) w ≡ Zero → sign_at_instant (quadratic a b c) w ≡ Minus
  unfolding sign_at_instant
  level_below w k e = level_sign (number_of w) (canonical-sound w k) (divisor-positive w k) e

  -- ---- a canonical instant at which the quadratic has sign 0 is one of its roots
  pub root_itself : (w : Shape) → IsCanonicalForm w → sign_at_instant (quadratic a b c) w ≡ Zero → (upper : Bool) × (w ≡ Root a b c upper)
  root_itself (Ratio n d) k e = absurd (sign_zero_at_fraction n d (sign_in Plus d k.positive) e)
  root_itself (Root a' b' c' upper) k e =
      let m = sign_zero_at_root (quadratic a b c) a' b' c' k upper e in
      let same = same_primitive a b c a' b' c' i.positive k.positive i.primitive k.primitive m.0 m.1 in
      (upper, sym (ap (λ z. Root z b c upper) same.0 ∙ ap₂ (λ y z. Root a' y z upper) same.1 same.2))
