-- The order of canonical instants is total: of two different ones one is less.
use Rattle.std.proofs.Common.{◌≡◌, ◌≢◌, ◌⊎◌, inl, inr, ℕ, true, false, sym, ◌∙◌, subst, ◌<◌, ◌^◌, pos}
use Rattle.std.specs.Prelude.{ℤ}
use Rattle.kin_algebra.specs.declared.sign.Sign.{Sign}
use Rattle.kin_algebra.specs.declared.sign.Sign.TheVariants.{Minus, Zero, Plus}
use Rattle.kin_num.specs.declared.instant.Shape.{Shape}
use Rattle.kin_num.specs.declared.instant.Shape.TheVariants.{Ratio, Root}
use Rattle.kin_num.specs.Quadratic.{quadratic}
use Rattle.kin_num.specs.Canonical.{IsCanonical, IsCanonicalForm, IsIrreducible, IsLowest}
use Rattle.kin_num.specs.Instants.{number_of, sign_at_instant, derivative, line}
use Rattle.kin_num.specs.Order.{IsLess, AreLevel}
use Rattle.kin_num.proofs.Near.{HasSize, IsFine, grain, grain-fine}
use Rattle.kin_num.proofs.Sizes.{HasShapeHeight, size_of, height_of, own_size, own_height, height_some, small_size, small_height, small_some, small_fine}
use Rattle.kin_num.proofs.RootOrder as Roots
use Rattle.kin_num.proofs.RootOrder.{SeparatedAt, Compared, root_order}
use Rattle.kin_num.proofs.FractionOrder as Fractions
use Rattle.kin_num.proofs.FractionOrder.{fraction_order}
use Rattle.kin_num.proofs.LowerFractions.{not_less_itself}

-- ---- at a given denominator
pub compared : (v w : Shape) → IsCanonicalForm v → IsCanonicalForm w → (m t h : ℕ) → HasSize (number_of v) m → 0 < h → IsFine h m t → HasShapeHeight w h → Compared t v w
compared v (Ratio n d) fv fw m t h size some fine height = fraction_order n d fw v fv m t h size some fine height
compared v (Root a b c upper) fv fw m t h size some fine height = root_order a b c fw v fv m t h size some fine height.own height.slope upper

-- within the bounds 2^200 is a denominator that serves
pub small_compared : (v w : Shape) → IsCanonical v → IsCanonical w → Compared (2 ^ 200) v w
small_compared v w cv cw = compared v w cv.form cw.form (2 ^ 33) (2 ^ 200) (2 ^ 31) (small_size v cv.form cv.small) small_some small_fine (small_height w cw.small)

-- ---- at any denominator
pub less_at : {t : ℕ} {v w : Shape} → SeparatedAt t v w → IsLess v w
less_at {t} s = (s.0, pos t, s.1)

pub total : (v w : Shape) → IsCanonicalForm v → IsCanonicalForm w → IsLess v w ⊎ (IsLess w v ⊎ (v ≡ w))
total v w fv fw = at (compared v w fv fw (size_of v) (grain (height_of w) (size_of v)) (height_of w) (own_size v fv) (height_some w) (grain-fine (height_of w) (size_of v)) (own_height w))
  where
    at : Compared (grain (height_of w) (size_of v)) v w → IsLess v w ⊎ (IsLess w v ⊎ (v ≡ w))
    at (inl s) = inl (less_at s)
    at (inr (inl s)) = inr (inl (less_at s))
    at (inr (inr e)) = inr (inr e)

-- two canonical instants are level exactly where their forms are the same
pub level_same : (v w : Shape) → IsCanonicalForm v → IsCanonicalForm w → AreLevel v w → v ≡ w
level_same v w fv fw l = at (total v w fv fw)
  where
    at : IsLess v w ⊎ (IsLess w v ⊎ (v ≡ w)) → v ≡ w
    at (inl p) = absurd (l.0 p)
    at (inr (inl p)) = absurd (l.1 p)
    at (inr (inr e)) = e

pub same_level : (v w : Shape) → v ≡ w → AreLevel v w
same_level v w e = subst (AreLevel v) e (not_less_itself v, not_less_itself v)

-- ---- against a root, by the signs of its quadratic and of the derivative
module _ (a b c : ℤ) (i : IsIrreducible a b c) (w : Shape) (form : IsCanonicalForm w) where
  abbrev root : Shape
  root = Root a b c true

  abbrev value_sign : Sign
  value_sign = sign_at_instant (quadratic a b c) w

  abbrev slope_sign : Sign
  slope_sign = sign_at_instant (derivative (quadratic a b c)) w

  pub below_upper : (slope_sign ≡ Minus) ⊎ (value_sign ≡ Minus) → IsLess w (Root a b c true)
  below_upper h = less_at (Roots.below_upper a b c i w form (size_of w) (grain (height_of root) (size_of w)) (height_of root) (own_size w form) (height_some root) (grain-fine (height_of root) (size_of w)) (own_height root).own (own_height root).slope h)

  pub above_upper : slope_sign ≡ Plus → value_sign ≡ Plus → IsLess (Root a b c true) w
  above_upper g h = less_at (Roots.above_upper a b c i w form (size_of w) (grain (height_of root) (size_of w)) (height_of root) (own_size w form) (height_some root) (grain-fine (height_of root) (size_of w)) (own_height root).own (own_height root).slope g h)

  pub at_upper : slope_sign ≡ Plus → value_sign ≡ Zero → w ≡ Root a b c true
  at_upper g h = Roots.at_upper a b c i w form (size_of w) (grain (height_of root) (size_of w)) (height_of root) (own_size w form) (height_some root) (grain-fine (height_of root) (size_of w)) (own_height root).own (own_height root).slope g h

  pub below_lower : slope_sign ≡ Minus → value_sign ≡ Plus → IsLess w (Root a b c false)
  below_lower g h = less_at (Roots.below_lower a b c i w form (size_of w) (grain (height_of root) (size_of w)) (height_of root) (own_size w form) (height_some root) (grain-fine (height_of root) (size_of w)) (own_height root).own (own_height root).slope g h)

  pub above_lower : (slope_sign ≡ Plus) ⊎ (value_sign ≡ Minus) → IsLess (Root a b c false) w
  above_lower h = less_at (Roots.above_lower a b c i w form (size_of w) (grain (height_of root) (size_of w)) (height_of root) (own_size w form) (height_some root) (grain-fine (height_of root) (size_of w)) (own_height root).own (own_height root).slope h)

  pub at_lower : slope_sign ≡ Minus → value_sign ≡ Zero → w ≡ Root a b c false
  at_lower g h = Roots.at_lower a b c i w form (size_of w) (grain (height_of root) (size_of w)) (height_of root) (own_size w form) (height_some root) (grain-fine (height_of root) (size_of w)) (own_height root).own (own_height root).slope g h

  -- a slope of sign 0 comes with a negative value
  pub level_value : slope_sign ≡ Zero → value_sign ≡ Minus
  level_value e = Roots.level a b c i w form (size_of w) (grain (height_of root) (size_of w)) (height_of root) (own_size w form) (height_some root) (grain-fine (height_of root) (size_of w)) (own_height root).own (own_height root).slope e

  pub never_level : {P : Type 0} (v : Sign) → value_sign ≡ v → v ≢ Minus → slope_sign ≡ Zero → P
  never_level v e n f = absurd (n (sym e ∙ level_value f))

-- ---- against a fraction, by the sign of its line
module _ (n d : ℤ) (i : IsLowest n d) (w : Shape) (form : IsCanonicalForm w) where
  abbrev fraction : Shape
  fraction = Ratio n d

  pub above_fraction : sign_at_instant (line n d) w ≡ Plus → IsLess (Ratio n d) w
  above_fraction e = less_at (Fractions.above_fraction n d i w form (size_of w) (grain (height_of fraction) (size_of w)) (height_of fraction) (own_size w form) (height_some fraction) (grain-fine (height_of fraction) (size_of w)) (own_height fraction) e)

  pub below_fraction : sign_at_instant (line n d) w ≡ Minus → IsLess w (Ratio n d)
  below_fraction e = less_at (Fractions.below_fraction n d i w form (size_of w) (grain (height_of fraction) (size_of w)) (height_of fraction) (own_size w form) (height_some fraction) (grain-fine (height_of fraction) (size_of w)) (own_height fraction) e)
