-- The sign of a polynomial at a moment of either phase is its sign at one number, the moment's seat.
use Rattle.std.proofs.Common.{◌≡◌, ◌≢◌, ℕ, [], ◌∷◌, refl, sym, ap, ap₂, ◌∙◌, subst, ◌<◌, ◌^◌, arith}
use Rattle.std.specs.Prelude.{ℤ, pos, ◌-ℤ◌, ◌*ℤ◌}
use Rattle.std.proofs.lemmas.Int.{ints}
use Rattle.kin_algebra.specs.declared.sign.Sign.{Sign}
use Rattle.kin_algebra.specs.declared.sign.Sign.TheVariants.{Minus, Zero, Plus}
use Rattle.kin_algebra.specs.Signs.{sign_of, opposite_of, first_of}
use Rattle.kin_algebra.proofs.Ring.{by_ring, quotes}
use Rattle.kin_algebra.proofs.Signs.{code, opposite-opposite}
use Rattle.kin_algebra.proofs.OrderedRings.{OrderedRing, scale, positive_product}
use Rattle.kin_algebra.proofs.Bounds.{IsApart}
use Rattle.kin_algebra.proofs.IntegerSigns.{ordered_integers}
use Rattle.kin_algebra.proofs.Pairs.{Pair, pair, pair_plus, pair_times, Sound, sign_over, sign_over-whole, sign_over-negative}
use Rattle.kin_num.specs.declared.instant.Phase.{Phase}
use Rattle.kin_num.specs.declared.instant.Phase.TheVariants.{At, After}
use Rattle.kin_num.specs.declared.instant.Moment.{Moment}
use Rattle.kin_num.specs.Quadratic.{Quadratic, IsSmall}
use Rattle.kin_num.specs.Canonical.{IsCanonical}
use Rattle.kin_num.specs.Instants.{Number, number_of, sign_at_number, sign_at_instant, derivative, sign_at_phase, sign_at, later_by, seat_of}
use Rattle.kin_num.proofs.Values.{value, negated, value-negated}
use Rattle.kin_num.proofs.SignLaws.{derivative-negated}
use Rattle.kin_num.proofs.Nearness.{value_in, slope_in, value_after, after, after_slope, after_second}
use Rattle.kin_num.proofs.NumberRing.{flat, conjugate, ring_over, flat_some, positive_apart}
use Rattle.kin_num.proofs.Near.{HasHeight, HasSize, IsFine, value-in, conjugate-in, point_size, Q_positive}
use Rattle.kin_num.proofs.Kept.{t_some, bounds, conjugate_size, fine_here, flat_positive, height-negated}
use Rattle.kin_num.proofs.Sizes.{HaveHeight, quadratic-height, small_size, small_some, small_fine}

module _ (x : Number) (m t h : ℕ) (size : HasSize x m) (some : 0 < h) (fine : IsFine h m t) where
  abbrev d : ℤ
  d = x.radicand

  abbrev s : Sound d
  s = size.sound

  abbrev o : OrderedRing Pair
  o = ring_over d s

  abbrev Z : Pair
  Z = pair x.whole x.root

  abbrev later : Number
  later = later_by (pos t) x

  room : 0 < t
  room = t_some x m t h size some fine

  abbrev value_here : Quadratic → Pair
  value_here p = value_in o (flat p.a) (flat p.b) (flat p.c) (flat x.divisor) Z

  later-in : (p : Quadratic) (t : ℤ) → value p (later_by t x) ≡ value_after o (flat p.a) (flat p.b) (flat p.c) (flat x.divisor) (flat (pos m)) (flat (pos m)) (flat t) Z
  later-in p t =
      ap₂ pair
      (by_ring (p.a ∷ p.b ∷ p.c ∷ x.whole ∷ x.root ∷ x.radicand ∷ x.divisor ∷ t ∷ []) _ _ (search quotes depth 40 fits 80000) (search quotes depth 40 fits 80000) refl)
      (by_ring (p.a ∷ p.b ∷ p.c ∷ x.whole ∷ x.root ∷ x.radicand ∷ x.divisor ∷ t ∷ []) _ _ (search quotes depth 40 fits 80000) (search quotes depth 40 fits 80000) refl)

  -- ---- the value decides
  value-plus : (p : Quadratic) → HasHeight p h → sign_at_number p x ≡ Plus → sign_at_number p later ≡ Plus
  value-plus p height e =
      let positive : sign_over d (value_here p) ≡ Plus = sym (ap (sign_over d) (value-in x s p)) ∙ e in
      let apart : IsApart o (value_here p) (value_in o (flat p.a) (flat p.b) (flat p.c) (flat x.divisor) (conjugate Z)) = subst (IsApart o (value_here p)) (conjugate-in x s p) (positive_apart d s (value_here p) positive) in
      ap (sign_over d) (later-in p (pos t))
      ∙ after o (flat p.a) (flat p.b) (flat p.c) (flat x.divisor) (flat (pos h)) (flat (pos m)) (flat (pos t)) Z
      (bounds x m t h size some fine p height) (conjugate Z) (point_size x m t size room) (conjugate_size x m t h size some fine) apart positive
      (flat_positive x m t h size some fine t room) (flat_some d s (pos t -ℤ pos 1) (omega (arith, ints, room))) (fine_here x m t h size some fine)

  turned_at : (p : Quadratic) (y : Number) → Sound y.radicand → sign_at_number (negated p) y ≡ opposite_of (sign_at_number p y)
  turned_at p y k = ap (sign_over y.radicand) (value-negated p y) ∙ sign_over-negative y.radicand k (value p y)

  back : (p : Quadratic) (y : Number) → Sound y.radicand → sign_at_number (negated p) y ≡ Plus → sign_at_number p y ≡ Minus
  back p y k e = sym (opposite-opposite (sign_at_number p y)) ∙ ap opposite_of (sym (turned_at p y k) ∙ e)

  seat_value : (p : Quadratic) → HasHeight p h → (σ : Sign) → σ ≢ Zero → sign_at_number p x ≡ σ → sign_at_number p later ≡ σ
  seat_value p height Plus n e = value-plus p height e
  seat_value p height Zero n e = absurd (n refl)
  seat_value p height Minus n e = back p later s (value-plus (negated p) (height-negated p h height) (turned_at p x s ∙ ap opposite_of e))

  -- ---- the slope decides
  slope-in : (p : Quadratic) → value (derivative p) x ≡ pair_times d (flat x.divisor) (slope_in o (flat p.a) (flat p.b) (flat x.divisor) Z)
  slope-in p =
      ap₂ pair
      (by_ring (p.a ∷ p.b ∷ x.whole ∷ x.root ∷ x.radicand ∷ x.divisor ∷ []) _ _ (search quotes depth 40 fits 80000) (search quotes depth 40 fits 80000) refl)
      (by_ring (p.a ∷ p.b ∷ x.whole ∷ x.root ∷ x.radicand ∷ x.divisor ∷ []) _ _ (search quotes depth 40 fits 80000) (search quotes depth 40 fits 80000) refl)

  slope_later-in : (p : Quadratic) (t : ℤ) → value (derivative p) (later_by t x) ≡ value_in o (flat (pos 0)) (pair_plus (flat p.a) (flat p.a)) (flat p.b) (pair_times d (flat x.divisor) (flat t)) (pair_plus (pair_times d Z (flat t)) (flat x.divisor))
  slope_later-in p t =
      ap₂ pair
      (by_ring (p.a ∷ p.b ∷ x.whole ∷ x.root ∷ x.radicand ∷ x.divisor ∷ t ∷ []) _ _ (search quotes depth 40 fits 80000) (search quotes depth 40 fits 80000) refl)
      (by_ring (p.a ∷ p.b ∷ x.whole ∷ x.root ∷ x.radicand ∷ x.divisor ∷ t ∷ []) _ _ (search quotes depth 40 fits 80000) (search quotes depth 40 fits 80000) refl)

  slope_sign : (p : Quadratic) → sign_at_number (derivative p) x ≡ sign_over d (slope_in o (flat p.a) (flat p.b) (flat x.divisor) Z)
  slope_sign p = ap (sign_over d) (slope-in p) ∙ scale o {a = flat x.divisor} (slope_in o (flat p.a) (flat p.b) (flat x.divisor) Z) (Q_positive x m t size room)

  value_zero : (p : Quadratic) → sign_at_number p x ≡ Zero → sign_over d (value_here p) ≡ Zero
  value_zero p e = sym (ap (sign_over d) (value-in x s p)) ∙ e

  slope-plus : (p : Quadratic) → HasHeight (derivative p) h → sign_at_number p x ≡ Zero → sign_at_number (derivative p) x ≡ Plus → sign_at_number p later ≡ Plus
  slope-plus p height e f =
      ap (sign_over d) (later-in p (pos t))
      ∙ after_slope o (flat p.a) (flat p.b) (flat p.c) (flat x.divisor) (flat (pos m)) (flat (pos m)) (flat (pos t)) Z
      (flat_positive x m t h size some fine t room) (Q_positive x m t size room) (value_zero p e) (sym (slope_sign p) ∙ f)
      (ap (sign_over d) (sym (slope_later-in p (pos t))) ∙ value-plus (derivative p) height f)

  seat_slope : (p : Quadratic) → HasHeight (derivative p) h → sign_at_number p x ≡ Zero → (σ : Sign) → σ ≢ Zero → sign_at_number (derivative p) x ≡ σ → sign_at_number p later ≡ σ
  seat_slope p height e Plus n f = slope-plus p height e f
  seat_slope p height e Zero n f = absurd (n refl)
  seat_slope p height e Minus n f =
      back p later s
      (slope-plus (negated p) (subst (λ q. HasHeight q h) (sym (derivative-negated p)) (height-negated (derivative p) h height)) (turned_at p x s ∙ ap opposite_of e)
      (ap (λ q. sign_at_number q x) (derivative-negated p) ∙ turned_at (derivative p) x s ∙ ap opposite_of f))

  -- ---- the second coefficient decides
  second-in : (p : Quadratic) → value (derivative (derivative p)) x ≡ flat ((pos 2 *ℤ (x.divisor *ℤ x.divisor)) *ℤ p.a)
  second-in p =
      ap₂ pair
      (by_ring (p.a ∷ p.b ∷ x.whole ∷ x.root ∷ x.radicand ∷ x.divisor ∷ []) _ _ (search quotes depth 40 fits 80000) (search quotes depth 40 fits 80000) refl)
      (by_ring (p.a ∷ p.b ∷ x.whole ∷ x.root ∷ x.radicand ∷ x.divisor ∷ []) _ _ (search quotes depth 40 fits 80000) (search quotes depth 40 fits 80000) refl)

  second_sign : (p : Quadratic) → sign_at_number (derivative (derivative p)) x ≡ sign_of p.a
  second_sign p =
      ap (sign_over d) (second-in p)
      ∙ sign_over-whole d s ((pos 2 *ℤ (x.divisor *ℤ x.divisor)) *ℤ p.a)
      ∙ scale ordered_integers {a = pos 2 *ℤ (x.divisor *ℤ x.divisor)} p.a (positive_product ordered_integers {a = pos 2} refl (positive_product ordered_integers {a = x.divisor} size.positive size.positive))

  seat_second : (p : Quadratic) → sign_at_number p x ≡ Zero → sign_at_number (derivative p) x ≡ Zero → sign_at_number p later ≡ sign_at_number (derivative (derivative p)) x
  seat_second p e f =
      ap (sign_over d) (later-in p (pos t))
      ∙ after_second o (flat p.a) (flat p.b) (flat p.c) (flat x.divisor) (flat (pos m)) (flat (pos m)) (flat (pos t)) Z (Q_positive x m t size room) (value_zero p e) (sym (slope_sign p) ∙ f)
      ∙ sign_over-whole d s p.a
      ∙ sym (second_sign p)

  -- just after the number the first of the three that isn't 0 is the sign at the seat
  pub seat_later : (p : Quadratic) → HasHeight p h → HasHeight (derivative p) h → first_of (sign_at_number p x) (first_of (sign_at_number (derivative p) x) (sign_at_number (derivative (derivative p)) x)) ≡ sign_at_number p later
  seat_later p height slope_height = at (sign_at_number p x) (sign_at_number (derivative p) x) refl refl
    where
      at : (v u : Sign) → sign_at_number p x ≡ v → sign_at_number (derivative p) x ≡ u → first_of v (first_of u (sign_at_number (derivative (derivative p)) x)) ≡ sign_at_number p later
      at Minus u e f = sym (seat_value p height Minus (λ z. code z) e)
      at Plus u e f = sym (seat_value p height Plus (λ z. code z) e)
      at Zero Minus e f = sym (seat_slope p slope_height e Minus (λ z. code z) f)
      at Zero Plus e f = sym (seat_slope p slope_height e Plus (λ z. code z) f)
      at Zero Zero e f = sym (seat_second p e f)

heights : (p : Quadratic) → IsSmall p → HaveHeight p.a p.b p.c (2 ^ 31)
heights p k = quadratic-height p.a p.b p.c (2 ^ 31) (omega (arith, k.a_small)) k.b_small (omega (arith, k.c_small))

-- at every moment, of either phase, the sign is that of the value at the seat
pub seat : (p : Quadratic) → IsSmall p → (m : Moment) → IsCanonical m.at → sign_at p m ≡ sign_at_number p (seat_of m.at m.phase)
unfolding sign_at sign_at_instant
seat p k m c = at m.phase refl
  where
    at : (f : Phase) → m.phase ≡ f → sign_at_phase p m.at m.phase ≡ sign_at_number p (seat_of m.at m.phase)
    at At e = subst (λ f. sign_at_phase p m.at f ≡ sign_at_number p (seat_of m.at f)) (sym e) refl
    at After e =
        subst (λ f. sign_at_phase p m.at f ≡ sign_at_number p (seat_of m.at f)) (sym e)
        (seat_later (number_of m.at) (2 ^ 33) (2 ^ 200) (2 ^ 31) (small_size m.at c.form c.small) small_some small_fine p (heights p k).own (heights p k).slope)
