-- The signs of a quadratic, its slope and its curvature at an instant, as signs of few whole numbers.
use Rattle.std.proofs.Common.{◌≡◌, ◌≢◌, refl, ap, ap₂, sym, ◌∙◌, Bool, true, false, zero, suc, [], ◌∷◌, arith, ℤ, pos, negsuc, ◌+ℤ◌, ◌-ℤ◌, ◌*ℤ◌}
use Rattle.std.specs.Prelude.{◌<ℤ◌}
use Rattle.std.proofs.lemmas.Int.{ints}
use lib.IntN.{neg_ℤ}
use Rattle.kin_algebra.specs.declared.sign.Sign.{Sign}
use Rattle.kin_algebra.specs.declared.sign.Sign.TheVariants.{Minus, Zero, Plus}
use Rattle.kin_algebra.specs.Signs.{sign_of, product_of, first_of, sum_sign_of, norm_of, pair_sign_of}
use Rattle.kin_algebra.proofs.Ring.{by_ring, quotes}
use Rattle.kin_algebra.proofs.Signs.{code, first_some}
use Rattle.kin_algebra.proofs.IntegerSigns.{sign_of-times, sign_in}
use Rattle.kin_num.specs.declared.instant.Shape.{Shape}
use Rattle.kin_num.specs.declared.instant.Shape.TheVariants.{Ratio, Root}
use Rattle.kin_num.specs.Quadratic.{Quadratic}
use Rattle.kin_num.specs.Canonical.{IsCanonicalForm, discriminant}
use Rattle.kin_num.specs.Instants.{sign_at_instant, sign_at_phase, sign_at, derivative, number_of, side}
use Rattle.kin_num.specs.declared.instant.Phase.{Phase}
use Rattle.kin_num.specs.declared.instant.Phase.TheVariants.{At, After}
use Rattle.kin_num.proofs.Constants.{curvature_sign}
use Rattle.kin_num.proofs.RootSigns.{pair_sign-positive, times_positive}
use Rattle.kin_instant.specs.Remainders.{remainder_slope_of, remainder_start_of}

-- ---- positive factors
pub sign-scaled : (k z : ℤ) → pos 0 <ℤ k → sign_of (k *ℤ z) ≡ sign_of z
sign-scaled k z h = times_positive k z (sign_in Plus k h)

positive-times : (a b : ℤ) → pos 0 <ℤ a → pos 0 <ℤ b → sign_of (a *ℤ b) ≡ Plus
positive-times a b h k = sign-scaled a b h ∙ sign_in Plus b k

-- ---- signs of pairs over a positive radicand
norm-scaled : (k u v d : ℤ) → norm_of (k *ℤ u) (k *ℤ v) d ≡ k *ℤ (k *ℤ norm_of u v d)
norm-scaled k u v d = by_ring (k ∷ u ∷ v ∷ d ∷ []) _ _ (search quotes depth 20) (search quotes depth 20) refl

pub pair_sign-scaled : (k u v d : ℤ) → pos 0 <ℤ k → pos 0 <ℤ d → pair_sign_of (k *ℤ u) (k *ℤ v) d ≡ pair_sign_of u v d
pair_sign-scaled k u v d h real =
    pair_sign-positive (k *ℤ u) (k *ℤ v) d real
    ∙ ap (λ (n : ℤ). sum_sign_of (sign_of (k *ℤ u)) (sign_of (k *ℤ v)) (sign_of n)) (norm-scaled k u v d)
    ∙ ap₂ (λ (s t : Sign). sum_sign_of s t (sign_of (k *ℤ (k *ℤ norm_of u v d)))) (sign-scaled k u h) (sign-scaled k v h)
    ∙ ap (sum_sign_of (sign_of u) (sign_of v)) (sign-scaled k (k *ℤ norm_of u v d) h ∙ sign-scaled k (norm_of u v d) h)
    ∙ sym (pair_sign-positive u v d real)

-- ---- at a fraction
module _ (p q r n d : ℤ) where
  ratio_line : pos 0 *ℤ (n *ℤ n +ℤ pos 0 *ℤ pos 0 *ℤ pos 0) +ℤ q *ℤ n *ℤ d +ℤ r *ℤ d *ℤ d ≡ d *ℤ (n *ℤ q +ℤ d *ℤ r)
  ratio_line = by_ring (q ∷ r ∷ n ∷ d ∷ []) _ _ (search quotes depth 20) (search quotes depth 20) refl

  ratio_value : p *ℤ (n *ℤ n +ℤ pos 0 *ℤ pos 0 *ℤ pos 0) +ℤ q *ℤ n *ℤ d +ℤ r *ℤ d *ℤ d ≡ (d *ℤ q +ℤ n *ℤ p) *ℤ n +ℤ (r *ℤ d) *ℤ d
  ratio_value = by_ring (p ∷ q ∷ r ∷ n ∷ d ∷ []) _ _ (search quotes depth 20) (search quotes depth 20) refl

  ratio_slope : pos 0 *ℤ (n *ℤ n +ℤ pos 0 *ℤ pos 0 *ℤ pos 0) +ℤ (pos 2 *ℤ p) *ℤ n *ℤ d +ℤ q *ℤ d *ℤ d ≡ d *ℤ (d *ℤ q +ℤ n *ℤ (pos 2 *ℤ p))
  ratio_slope = by_ring (p ∷ q ∷ n ∷ d ∷ []) _ _ (search quotes depth 20) (search quotes depth 20) refl

pub sign_at_ratio-line : (p : Quadratic) (n d : ℤ) → pos 0 <ℤ d → p.a ≡ pos 0 → sign_at_instant p (Ratio n d) ≡ sign_of (n *ℤ p.b +ℤ d *ℤ p.c)
unfolding sign_at_instant
sign_at_ratio-line p n d h e =
    ap (λ (z : ℤ). sign_of (z *ℤ (n *ℤ n +ℤ pos 0 *ℤ pos 0 *ℤ pos 0) +ℤ p.b *ℤ n *ℤ d +ℤ p.c *ℤ d *ℤ d)) e
    ∙ ap sign_of (ratio_line p.a p.b p.c n d)
    ∙ sign-scaled d (n *ℤ p.b +ℤ d *ℤ p.c) h

pub sign_at_ratio-value : (p : Quadratic) (n d : ℤ) → sign_at_instant p (Ratio n d) ≡ sign_of ((d *ℤ p.b +ℤ n *ℤ p.a) *ℤ n +ℤ (p.c *ℤ d) *ℤ d)
unfolding sign_at_instant
sign_at_ratio-value p n d = ap sign_of (ratio_value p.a p.b p.c n d)

pub sign_at_ratio-slope : (p : Quadratic) (n d : ℤ) → pos 0 <ℤ d → sign_at_instant (derivative p) (Ratio n d) ≡ sign_of (d *ℤ p.b +ℤ n *ℤ (pos 2 *ℤ p.a))
unfolding sign_at_instant
sign_at_ratio-slope p n d h = ap sign_of (ratio_slope p.a p.b p.c n d) ∙ sign-scaled d (d *ℤ p.b +ℤ n *ℤ (pos 2 *ℤ p.a)) h

-- ---- at a root
abbrev pub whole_of : Quadratic → ℤ → ℤ → ℤ → ℤ
whole_of p a b c = (pos 2 *ℤ a) *ℤ remainder_start_of p a c -ℤ b *ℤ remainder_slope_of p a b

abbrev pub resultant_of : Quadratic → ℤ → ℤ → ℤ → ℤ
resultant_of p a b c = remainder_start_of p a c *ℤ remainder_start_of p a c -ℤ remainder_slope_of p a b *ℤ (b *ℤ p.c -ℤ p.b *ℤ c)

-- m is 1 or -1
module _ (p q r a b c m : ℤ) (e : m *ℤ m ≡ pos 1) where
  abbrev slope : ℤ
  slope = a *ℤ q -ℤ b *ℤ p

  abbrev start : ℤ
  start = a *ℤ r -ℤ c *ℤ p

  abbrev units : ℤ
  units = (pos 2 *ℤ a) *ℤ start -ℤ b *ℤ slope

  abbrev under : ℤ
  under = b *ℤ b -ℤ pos 4 *ℤ a *ℤ c

  root_units : p *ℤ (neg_ℤ b *ℤ neg_ℤ b +ℤ m *ℤ m *ℤ under) +ℤ q *ℤ neg_ℤ b *ℤ (pos 2 *ℤ a) +ℤ r *ℤ (pos 2 *ℤ a) *ℤ (pos 2 *ℤ a) ≡ pos 2 *ℤ units
  root_units =
      ap (λ (k : ℤ). p *ℤ (neg_ℤ b *ℤ neg_ℤ b +ℤ k *ℤ under) +ℤ q *ℤ neg_ℤ b *ℤ (pos 2 *ℤ a) +ℤ r *ℤ (pos 2 *ℤ a) *ℤ (pos 2 *ℤ a)) e
      ∙ by_ring (p ∷ q ∷ r ∷ a ∷ b ∷ c ∷ []) _ _ (search quotes depth 24 fits 40000) (search quotes depth 24 fits 40000) refl

  root_surd : pos 2 *ℤ p *ℤ neg_ℤ b *ℤ m +ℤ q *ℤ m *ℤ (pos 2 *ℤ a) ≡ pos 2 *ℤ (m *ℤ slope)
  root_surd = by_ring (p ∷ q ∷ a ∷ b ∷ m ∷ []) _ _ (search quotes depth 24 fits 40000) (search quotes depth 24 fits 40000) refl

  root_norm : norm_of units (m *ℤ slope) under ≡ (pos 4 *ℤ (a *ℤ a)) *ℤ (start *ℤ start -ℤ slope *ℤ (b *ℤ r -ℤ q *ℤ c))
  root_norm =
      by_ring (p ∷ q ∷ r ∷ a ∷ b ∷ c ∷ m ∷ []) (norm_of units (m *ℤ slope) under) (units *ℤ units -ℤ (m *ℤ m) *ℤ (slope *ℤ slope *ℤ under)) (search quotes depth 24 fits 40000) (search quotes depth 24 fits 40000) refl
      ∙ ap (λ (k : ℤ). units *ℤ units -ℤ k *ℤ (slope *ℤ slope *ℤ under)) e
      ∙ by_ring (p ∷ q ∷ r ∷ a ∷ b ∷ c ∷ []) _ _ (search quotes depth 24 fits 40000) (search quotes depth 24 fits 40000) refl

  root_value : pos 0 <ℤ a → pos 0 <ℤ under →
      pair_sign_of (p *ℤ (neg_ℤ b *ℤ neg_ℤ b +ℤ m *ℤ m *ℤ under) +ℤ q *ℤ neg_ℤ b *ℤ (pos 2 *ℤ a) +ℤ r *ℤ (pos 2 *ℤ a) *ℤ (pos 2 *ℤ a)) (pos 2 *ℤ p *ℤ neg_ℤ b *ℤ m +ℤ q *ℤ m *ℤ (pos 2 *ℤ a)) under
      ≡ sum_sign_of (sign_of units) (product_of (sign_of m) (sign_of slope)) (sign_of (start *ℤ start -ℤ slope *ℤ (b *ℤ r -ℤ q *ℤ c)))
  root_value h real =
      ap₂ (λ (u v : ℤ). pair_sign_of u v under) root_units root_surd
      ∙ pair_sign-scaled (pos 2) units (m *ℤ slope) under (omega (arith, ints)) real
      ∙ pair_sign-positive units (m *ℤ slope) under real
      ∙ ap₂ (sum_sign_of (sign_of units)) (sign_of-times m slope)
      (ap sign_of root_norm ∙ sign-scaled (pos 4 *ℤ (a *ℤ a)) _ four_squares)
    where
      square : pos 0 <ℤ (a *ℤ a)
      square = of_plus (a *ℤ a) (positive-times a a h h)
        where
          of_plus : (z : ℤ) → sign_of z ≡ Plus → pos 0 <ℤ z
          of_plus (pos zero) e = absurd (code e)
          of_plus (pos (suc n)) e = omega (arith, ints)
          of_plus (negsuc n) e = absurd (code e)

      four_squares : pos 0 <ℤ (pos 4 *ℤ (a *ℤ a))
      four_squares = omega (arith, ints, square)

  slope_units : pos 0 *ℤ (neg_ℤ b *ℤ neg_ℤ b +ℤ m *ℤ m *ℤ under) +ℤ (pos 2 *ℤ p) *ℤ neg_ℤ b *ℤ (pos 2 *ℤ a) +ℤ q *ℤ (pos 2 *ℤ a) *ℤ (pos 2 *ℤ a) ≡ (pos 4 *ℤ a) *ℤ slope
  slope_units = by_ring (p ∷ q ∷ a ∷ b ∷ c ∷ m ∷ []) _ _ (search quotes depth 24 fits 40000) (search quotes depth 24 fits 40000) refl

  slope_surd : pos 2 *ℤ pos 0 *ℤ neg_ℤ b *ℤ m +ℤ (pos 2 *ℤ p) *ℤ m *ℤ (pos 2 *ℤ a) ≡ (pos 4 *ℤ a) *ℤ (m *ℤ p)
  slope_surd = by_ring (p ∷ a ∷ b ∷ m ∷ []) _ _ (search quotes depth 24 fits 40000) (search quotes depth 24 fits 40000) refl

  root_slope : pos 0 <ℤ a → pos 0 <ℤ under →
      pair_sign_of (pos 0 *ℤ (neg_ℤ b *ℤ neg_ℤ b +ℤ m *ℤ m *ℤ under) +ℤ (pos 2 *ℤ p) *ℤ neg_ℤ b *ℤ (pos 2 *ℤ a) +ℤ q *ℤ (pos 2 *ℤ a) *ℤ (pos 2 *ℤ a)) (pos 2 *ℤ pos 0 *ℤ neg_ℤ b *ℤ m +ℤ (pos 2 *ℤ p) *ℤ m *ℤ (pos 2 *ℤ a)) under
      ≡ pair_sign_of slope (m *ℤ p) under
  root_slope h real = ap₂ (λ (u v : ℤ). pair_sign_of u v under) slope_units slope_surd ∙ pair_sign-scaled (pos 4 *ℤ a) slope (m *ℤ p) under (omega (arith, ints)) real

pub sign_at_root-value : (p : Quadratic) (a b c : ℤ) (upper : Bool) → pos 0 <ℤ a → pos 0 <ℤ discriminant a b c →
    sign_at_instant p (Root a b c upper) ≡ sum_sign_of (sign_of (whole_of p a b c)) (product_of (side upper) (sign_of (remainder_slope_of p a b))) (sign_of (resultant_of p a b c))
unfolding sign_at_instant
sign_at_root-value p a b c true h real = root_value p.a p.b p.c a b c (pos 1) refl h real
sign_at_root-value p a b c false h real = root_value p.a p.b p.c a b c (negsuc 0) refl h real

pub sign_at_root-slope : (p : Quadratic) (a b c : ℤ) (upper : Bool) → pos 0 <ℤ a → pos 0 <ℤ discriminant a b c →
    sign_at_instant (derivative p) (Root a b c upper) ≡ pair_sign_of (remainder_slope_of p a b) ((number_of (Root a b c upper)).root *ℤ p.a) (discriminant a b c)
unfolding sign_at_instant
sign_at_root-slope p a b c true h real = root_slope p.a p.b p.c a b c (pos 1) refl h real
sign_at_root-slope p a b c false h real = root_slope p.a p.b p.c a b c (negsuc 0) refl h real

-- ---- at a moment
pub sign_at-At : (p : Quadratic) (w : Shape) (f : Phase) → f ≡ At → sign_at_instant p w ≡ sign_at p (record { at = w; phase = f })
unfolding sign_at
sign_at-At p w f e = ap (sign_at_phase p w) (sym e)

pub sign_at-some : (p : Quadratic) (w : Shape) (f : Phase) → sign_at_instant p w ≢ Zero → sign_at_instant p w ≡ sign_at p (record { at = w; phase = f })
unfolding sign_at
sign_at-some p w At n = refl
sign_at-some p w After n = sym (first_some (sign_at_instant p w) _ n)

pub sign_at-After : (p : Quadratic) (w : Shape) (f : Phase) → f ≡ After → sign_at_instant p w ≡ Zero → IsCanonicalForm w → first_of (sign_at_instant (derivative p) w) (sign_of p.a) ≡ sign_at p (record { at = w; phase = f })
unfolding sign_at
sign_at-After p w f e z i =
    sym (ap (sign_at_phase p w) e ∙ ap (λ (s : Sign). first_of s (first_of (sign_at_instant (derivative p) w) (sign_at_instant (derivative (derivative p)) w))) z ∙ ap (first_of (sign_at_instant (derivative p) w)) (curvature_sign p w i))

-- ---- the sign of a sum
pub sum_sign-opposed : (s t n : Sign) → product_of s t ≡ Minus → sum_sign_of s t n ≡ product_of s n
sum_sign-opposed Minus Minus n e = absurd (code e)
sum_sign-opposed Minus Zero n e = absurd (code e)
sum_sign-opposed Minus Plus n e = refl
sum_sign-opposed Zero t n e = absurd (code e)
sum_sign-opposed Plus Minus n e = refl
sum_sign-opposed Plus Zero n e = absurd (code e)
sum_sign-opposed Plus Plus n e = absurd (code e)

pub sum_sign-agreeing : (s t n : Sign) → product_of s t ≢ Minus → sum_sign_of s t n ≡ first_of s t
sum_sign-agreeing Minus Minus n e = refl
sum_sign-agreeing Minus Zero n e = refl
sum_sign-agreeing Minus Plus n e = absurd (e refl)
sum_sign-agreeing Zero t n e = refl
sum_sign-agreeing Plus Minus n e = absurd (e refl)
sum_sign-agreeing Plus Zero n e = refl
sum_sign-agreeing Plus Plus n e = refl

pub opposed-is : (w s n w' s' n' t : Sign) → w ≡ w' → s ≡ s' → n ≡ n' → t ≡ sum_sign_of w' s' n' → product_of w s ≡ Minus → product_of w n ≡ t
opposed-is w s n w' s' n' t e f g h k = sym (sum_sign-opposed w s n k) ∙ ap₂ (λ (x y : Sign). sum_sign_of x y n) e f ∙ ap (sum_sign_of w' s') g ∙ sym h

pub agreeing-is : (w s w' s' n' t : Sign) → w ≡ w' → s ≡ s' → t ≡ sum_sign_of w' s' n' → product_of w s ≢ Minus → first_of w s ≡ t
agreeing-is w s w' s' n' t e f h k = sym (sum_sign-agreeing w s n' k) ∙ ap₂ (λ (x y : Sign). sum_sign_of x y n') e f ∙ sym h

-- ---- a remainder of the same numbers
pub same_remainder_slope : (p : Quadratic) (a b a' b' : ℤ) → a' ≡ a → b' ≡ b → remainder_slope_of p a' b' ≡ remainder_slope_of p a b
same_remainder_slope p a b a' b' e f = rw (e, f)
