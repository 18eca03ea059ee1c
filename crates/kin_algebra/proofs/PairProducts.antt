-- The sign of a product, and of a negated number, among the numbers u + v * sqrt(d).
use Rattle.std.proofs.Common.{◌≡◌, ◌≢◌, [], ◌∷◌, ℤ, ◌+ℤ◌, ◌-ℤ◌, ◌*ℤ◌, neg_ℤ, sym, refl, ap, ap₂, ◌∙◌, subst}
use lib.IntN.{+ℤ_comm}
use Rattle.kin_algebra.specs.declared.sign.Sign.{Sign}
use Rattle.kin_algebra.specs.declared.sign.Sign.TheVariants.{Minus, Zero, Plus}
use Rattle.kin_algebra.specs.Signs.{sign_of, opposite_of, product_of, norm_of}
use Rattle.kin_algebra.proofs.Ring.{by_ring, quotes}
use Rattle.kin_algebra.proofs.Signs.{AtLeast, product-Plus, product-Zero, square_sign, square_at_least}
use Rattle.kin_algebra.proofs.OrderedRings.{dominate}
use Rattle.kin_algebra.proofs.IntegerSigns.{ordered_integers, sign_of-plus, sign_of-times, sign_of-negative}
use Rattle.kin_algebra.proofs.Radicals.{Radical, by_norm, pair_sign, whole_of_plus, root_of_minus, norm_form}

pub norm_of-negative : (u v d : ℤ) → norm_of (neg_ℤ u) (neg_ℤ v) d ≡ norm_of u v d
norm_of-negative u v d = by_ring (u ∷ v ∷ d ∷ []) _ _ (search quotes depth 20) (search quotes depth 20) refl

module _ (d : ℤ) (r : Radical d) where
  -- a square times a number of sign +
  square_times : (k n : ℤ) → sign_of n ≡ Plus → sign_of ((k *ℤ k) *ℤ n) ≡ product_of (sign_of k) (sign_of k)
  square_times k n e = sign_of-times (k *ℤ k) n ∙ ap₂ product_of (sign_of-times k k) e ∙ product-Plus (product_of (sign_of k) (sign_of k))

  square_times-some : (k n : ℤ) → sign_of n ≡ Plus → AtLeast (sign_of ((k *ℤ k) *ℤ n))
  square_times-some k n e = subst AtLeast (sym (square_times k n e)) (square_at_least (sign_of k))

  square_times-plus : (k n : ℤ) → sign_of k ≢ Zero → sign_of n ≡ Plus → sign_of ((k *ℤ k) *ℤ n) ≡ Plus
  square_times-plus k n f e = square_times k n e ∙ square_sign (sign_of k) f

  -- the same, times d
  times_d : (z : ℤ) → sign_of (d *ℤ z) ≡ sign_of z
  times_d z = sign_of-times d z ∙ ap (λ s. product_of s (sign_of z)) r.positive

  turned : (n : ℤ) → sign_of n ≡ Minus → sign_of (neg_ℤ n) ≡ Plus
  turned n e = sign_of-negative n ∙ ap opposite_of e

  module _ (u v x y : ℤ) where
    -- the parts of the product
    abbrev pub re : ℤ
    re = u *ℤ x +ℤ d *ℤ (v *ℤ y)

    abbrev pub im : ℤ
    im = u *ℤ y +ℤ v *ℤ x

    abbrev n1 : ℤ
    n1 = norm_of u v d

    abbrev n2 : ℤ
    n2 = norm_of x y d

    pub norm_of-product : norm_of re im d ≡ n1 *ℤ n2
    norm_of-product = by_ring (u ∷ v ∷ x ∷ y ∷ d ∷ []) _ _ (search quotes depth 20) (search quotes depth 20) refl

    whole_parts : (u *ℤ x) *ℤ (u *ℤ x) -ℤ (d *ℤ (v *ℤ y)) *ℤ (d *ℤ (v *ℤ y)) ≡ (u *ℤ u) *ℤ n2 +ℤ d *ℤ ((y *ℤ y) *ℤ n1)
    whole_parts = by_ring (u ∷ v ∷ x ∷ y ∷ d ∷ []) _ _ (search quotes depth 20) (search quotes depth 20) refl

    root_parts : (d *ℤ (v *ℤ y)) *ℤ (d *ℤ (v *ℤ y)) -ℤ (u *ℤ x) *ℤ (u *ℤ x) ≡ d *ℤ ((y *ℤ y) *ℤ neg_ℤ n1) +ℤ (u *ℤ u) *ℤ neg_ℤ n2
    root_parts = by_ring (u ∷ v ∷ x ∷ y ∷ d ∷ []) _ _ (search quotes depth 20) (search quotes depth 20) refl

    first_cross : (u *ℤ y) *ℤ (u *ℤ y) -ℤ (v *ℤ x) *ℤ (v *ℤ x) ≡ (y *ℤ y) *ℤ n1 +ℤ (v *ℤ v) *ℤ neg_ℤ n2
    first_cross = by_ring (u ∷ v ∷ x ∷ y ∷ d ∷ []) _ _ (search quotes depth 20) (search quotes depth 20) refl

    second_cross : (v *ℤ x) *ℤ (v *ℤ x) -ℤ (u *ℤ y) *ℤ (u *ℤ y) ≡ (v *ℤ v) *ℤ n2 +ℤ (y *ℤ y) *ℤ neg_ℤ n1
    second_cross = by_ring (u ∷ v ∷ x ∷ y ∷ d ∷ []) _ _ (search quotes depth 20) (search quotes depth 20) refl

    both_plus : sign_of n1 ≡ Plus → sign_of n2 ≡ Plus → sign_of re ≡ product_of (sign_of u) (sign_of x)
    both_plus e f =
        let rest : AtLeast (sign_of (d *ℤ ((y *ℤ y) *ℤ n1))) = subst AtLeast (sym (times_d ((y *ℤ y) *ℤ n1))) (square_times-some y n1 e) in
        let g = ap sign_of whole_parts ∙ sign_of-plus Plus ((u *ℤ u) *ℤ n2) (d *ℤ ((y *ℤ y) *ℤ n1)) (square_times-plus u n2 (whole_of_plus d r u v e) f) rest in
        (dominate ordered_integers (u *ℤ x) (d *ℤ (v *ℤ y)) g).0 ∙ sign_of-times u x

    both_minus : sign_of n1 ≡ Minus → sign_of n2 ≡ Minus → sign_of re ≡ product_of (sign_of v) (sign_of y)
    both_minus e f =
        let first : sign_of (d *ℤ ((y *ℤ y) *ℤ neg_ℤ n1)) ≡ Plus = times_d ((y *ℤ y) *ℤ neg_ℤ n1) ∙ square_times-plus y (neg_ℤ n1) (root_of_minus d r x y f) (turned n1 e) in
        let g = ap sign_of root_parts ∙ sign_of-plus Plus (d *ℤ ((y *ℤ y) *ℤ neg_ℤ n1)) ((u *ℤ u) *ℤ neg_ℤ n2) first (square_times-some u (neg_ℤ n2) (turned n2 f)) in
        ap sign_of (+ℤ_comm (u *ℤ x) (d *ℤ (v *ℤ y))) ∙ (dominate ordered_integers (d *ℤ (v *ℤ y)) (u *ℤ x) g).0 ∙ times_d (v *ℤ y) ∙ sign_of-times v y

    plus_minus : sign_of n1 ≡ Plus → sign_of n2 ≡ Minus → sign_of im ≡ product_of (sign_of u) (sign_of y)
    plus_minus e f =
        let g = ap sign_of first_cross ∙ sign_of-plus Plus ((y *ℤ y) *ℤ n1) ((v *ℤ v) *ℤ neg_ℤ n2) (square_times-plus y n1 (root_of_minus d r x y f) e) (square_times-some v (neg_ℤ n2) (turned n2 f)) in
        (dominate ordered_integers (u *ℤ y) (v *ℤ x) g).0 ∙ sign_of-times u y

    minus_plus : sign_of n1 ≡ Minus → sign_of n2 ≡ Plus → sign_of im ≡ product_of (sign_of v) (sign_of x)
    minus_plus e f =
        let g = ap sign_of second_cross ∙ sign_of-plus Plus ((v *ℤ v) *ℤ n2) ((y *ℤ y) *ℤ neg_ℤ n1) (square_times-plus v n2 (root_of_minus d r u v e) f) (square_times-some y (neg_ℤ n1) (turned n1 e)) in
        ap sign_of (+ℤ_comm (u *ℤ y) (v *ℤ x)) ∙ (dominate ordered_integers (v *ℤ x) (u *ℤ y) g).0 ∙ sign_of-times v x

    product_cases : (s t : Sign) → sign_of n1 ≡ s → sign_of n2 ≡ t → by_norm (product_of s t) (sign_of re) (sign_of im) ≡ product_of (by_norm s (sign_of u) (sign_of v)) (by_norm t (sign_of x) (sign_of y))
    product_cases Minus Minus e f = both_minus e f
    product_cases Minus Zero e f = sym (product-Zero (sign_of v))
    product_cases Minus Plus e f = minus_plus e f
    product_cases Zero t e f = refl
    product_cases Plus Minus e f = plus_minus e f
    product_cases Plus Zero e f = sym (product-Zero (sign_of u))
    product_cases Plus Plus e f = both_plus e f

    pub pair_sign-times : pair_sign d r re im ≡ product_of (pair_sign d r u v) (pair_sign d r x y)
    pair_sign-times =
        norm_form d r re im
        ∙ ap (λ s. by_norm s (sign_of re) (sign_of im)) (ap sign_of norm_of-product ∙ sign_of-times n1 n2)
        ∙ product_cases (sign_of n1) (sign_of n2) refl refl
        ∙ sym (ap₂ product_of (norm_form d r u v) (norm_form d r x y))

  -- ---- negatives
  by_norm-opposite : (n s t : Sign) → by_norm n (opposite_of s) (opposite_of t) ≡ opposite_of (by_norm n s t)
  by_norm-opposite Minus s t = refl
  by_norm-opposite Zero s t = refl
  by_norm-opposite Plus s t = refl

  pub pair_sign-negative : (u v : ℤ) → pair_sign d r (neg_ℤ u) (neg_ℤ v) ≡ opposite_of (pair_sign d r u v)
  pair_sign-negative u v =
      norm_form d r (neg_ℤ u) (neg_ℤ v)
      ∙ ap (λ n. by_norm n (sign_of (neg_ℤ u)) (sign_of (neg_ℤ v))) (ap sign_of (norm_of-negative u v d))
      ∙ ap₂ (by_norm (sign_of (norm_of u v d))) (sign_of-negative u) (sign_of-negative v)
      ∙ by_norm-opposite (sign_of (norm_of u v d)) (sign_of u) (sign_of v)
      ∙ ap opposite_of (sym (norm_form d r u v))
