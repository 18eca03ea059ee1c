-- The sign of a sum among the numbers u + v * sqrt(d).
use Rattle.std.proofs.Common.{◌≡◌, ◌≢◌, ◌⊎◌, inl, inr, [], ◌∷◌, ℤ, pos, ◌+ℤ◌, ◌*ℤ◌, ◌-ℤ◌, neg_ℤ, sym, refl, ap, ap₂, ◌∙◌, subst}
use lib.IntN.{+ℤ_idr}
use Rattle.kin_algebra.specs.declared.sign.Sign.{Sign}
use Rattle.kin_algebra.specs.declared.sign.Sign.TheVariants.{Minus, Zero, Plus}
use Rattle.kin_algebra.specs.Signs.{sign_of, opposite_of, product_of, norm_of}
use Rattle.kin_algebra.proofs.Ring.{by_ring, quotes}
use Rattle.kin_algebra.proofs.Signs.{code, opposite-opposite, product-Zero, product_some, cancel_sign, same_from_product}
use Rattle.kin_algebra.proofs.OrderedRings.{sign_twice}
use Rattle.kin_algebra.proofs.IntegerSigns.{ordered_integers, sign_of-plus, sign_of-times, sign_of-negative, zero_of}
use Rattle.kin_algebra.proofs.Radicals.{Radical, by_norm, pair_sign, nothing_of_zero, norm_form, pair_of_zero, pair_sign-whole}
use Rattle.kin_algebra.proofs.PairProducts.{re, im, pair_sign-times, pair_sign-negative}

module _ (d : ℤ) (r : Radical d) where
  -- ---- a whole number more
  module _ (u v k : ℤ) where
    abbrev before : ℤ
    before = norm_of u v d

    abbrev after : ℤ
    after = norm_of (u +ℤ k) v d

    abbrev step : ℤ
    step = (u +ℤ u) +ℤ k

    grown : after ≡ before +ℤ k *ℤ step
    grown = by_ring (u ∷ v ∷ k ∷ d ∷ []) _ _ (search quotes depth 20) (search quotes depth 20) refl

    growth : after -ℤ before ≡ k *ℤ step
    growth = by_ring (u ∷ v ∷ k ∷ d ∷ []) _ _ (search quotes depth 20) (search quotes depth 20) refl

    step_more : step +ℤ k ≡ (u +ℤ k) +ℤ (u +ℤ k)
    step_more = by_ring (u ∷ k ∷ []) _ _ (search quotes depth 20) (search quotes depth 20) refl

    shift_cases : (n m : Sign) → sign_of before ≡ n → sign_of after ≡ m → by_norm n (sign_of u) (sign_of v) ≡ Plus → sign_of k ≡ Plus → by_norm m (sign_of (u +ℤ k)) (sign_of v) ≡ Plus
    shift_cases Plus m e f g h =
        let s : sign_of step ≡ Plus = sign_of-plus Plus (u +ℤ u) k (sign_of-plus Plus u u g (inl g)) (inl h) in
        let p : sign_of after ≡ Plus = ap sign_of grown ∙ sign_of-plus Plus before (k *ℤ step) e (inl (sign_of-times k step ∙ ap₂ product_of h s)) in
        subst (λ t. by_norm t (sign_of (u +ℤ k)) (sign_of v) ≡ Plus) (sym p ∙ f) (sign_of-plus Plus u k g (inl h))
    shift_cases Zero m e f g h = absurd (code g)
    shift_cases Minus Minus e f g h = g
    shift_cases Minus Zero e f g h = absurd (code (sym g ∙ (nothing_of_zero d r (u +ℤ k) v f).1))
    shift_cases Minus Plus e f g h =
        let turned : sign_of (neg_ℤ before) ≡ Plus = sign_of-negative before ∙ ap opposite_of e in
        let p : product_of (sign_of k) (sign_of step) ≡ Plus = sym (sign_of-times k step) ∙ ap sign_of (sym growth) ∙ sign_of-plus Plus after (neg_ℤ before) f (inl turned) in
        let s : sign_of step ≡ Plus = sym (same_from_product _ _ p).0 ∙ h in
        sym (sign_twice ordered_integers (u +ℤ k)) ∙ ap sign_of (sym step_more) ∙ sign_of-plus Plus step k s (inl h)

    shift-plus : pair_sign d r u v ≡ Plus → sign_of k ≡ Plus → pair_sign d r (u +ℤ k) v ≡ Plus
    shift-plus e h = norm_form d r (u +ℤ k) v ∙ shift_cases (sign_of before) (sign_of after) refl refl (sym (norm_form d r u v) ∙ e) h

  negative_sum : (u k : ℤ) → neg_ℤ u +ℤ neg_ℤ k ≡ neg_ℤ (u +ℤ k)
  negative_sum u k = by_ring (u ∷ k ∷ []) _ _ (search quotes depth 20) (search quotes depth 20) refl

  -- a whole number of the same sign more
  pub shift : (s : Sign) (u v k : ℤ) → s ≢ Zero → pair_sign d r u v ≡ s → sign_of k ≡ s → pair_sign d r (u +ℤ k) v ≡ s
  shift Plus u v k z e h = shift-plus u v k e h
  shift Zero u v k z e h = absurd (z refl)
  shift Minus u v k z e h =
      sym (opposite-opposite (pair_sign d r (u +ℤ k) v))
      ∙ ap opposite_of (sym (pair_sign-negative d r (u +ℤ k) v)
      ∙ ap (λ w. pair_sign d r w (neg_ℤ v)) (sym (negative_sum u k))
      ∙ shift-plus (neg_ℤ u) (neg_ℤ v) (neg_ℤ k) (pair_sign-negative d r u v ∙ ap opposite_of e) (sign_of-negative k ∙ ap opposite_of h))

  -- ---- sums
  module _ (u v x y : ℤ) where
    norm-as_whole : norm_of x y d ≡ x *ℤ x +ℤ d *ℤ (y *ℤ neg_ℤ y)
    norm-as_whole = by_ring (x ∷ y ∷ d ∷ []) _ _ (search quotes depth 20) (search quotes depth 20) refl

    norm-as_root : pos 0 ≡ x *ℤ neg_ℤ y +ℤ y *ℤ x
    norm-as_root = by_ring (x ∷ y ∷ []) _ _ (search quotes depth 20) (search quotes depth 20) refl

    -- a number times its conjugate is its norm
    own_norm : sign_of (norm_of x y d) ≡ product_of (pair_sign d r x y) (pair_sign d r x (neg_ℤ y))
    own_norm = sym (pair_sign-whole d r (norm_of x y d)) ∙ ap₂ (pair_sign d r) norm-as_whole norm-as_root ∙ pair_sign-times d r x y x (neg_ℤ y)

    sum-as_whole : (u +ℤ x) *ℤ x +ℤ d *ℤ ((v +ℤ y) *ℤ neg_ℤ y) ≡ (u *ℤ x +ℤ d *ℤ (v *ℤ neg_ℤ y)) +ℤ norm_of x y d
    sum-as_whole = by_ring (u ∷ v ∷ x ∷ y ∷ d ∷ []) _ _ (search quotes depth 20) (search quotes depth 20) refl

    sum-as_root : (u +ℤ x) *ℤ neg_ℤ y +ℤ (v +ℤ y) *ℤ x ≡ u *ℤ neg_ℤ y +ℤ v *ℤ x
    sum-as_root = by_ring (u ∷ v ∷ x ∷ y ∷ []) _ _ (search quotes depth 20) (search quotes depth 20) refl

    -- the sum times the second's conjugate is the first times that conjugate, and the norm
    sum_times : product_of (pair_sign d r (u +ℤ x) (v +ℤ y)) (pair_sign d r x (neg_ℤ y)) ≡ pair_sign d r (re d r u v x (neg_ℤ y) +ℤ norm_of x y d) (im d r u v x (neg_ℤ y))
    sum_times = sym (pair_sign-times d r (u +ℤ x) (v +ℤ y) x (neg_ℤ y)) ∙ ap₂ (pair_sign d r) sum-as_whole sum-as_root

    conjugate_some : pair_sign d r x y ≢ Zero → pair_sign d r x (neg_ℤ y) ≢ Zero
    conjugate_some n e =
        let k = nothing_of_zero d r x y (own_norm ∙ ap (product_of (pair_sign d r x y)) e ∙ product-Zero (pair_sign d r x y)) in
        n (ap₂ (pair_sign d r) (zero_of x k.0) (zero_of y k.1) ∙ pair_sign-whole d r (pos 0))

    same_signs : (s : Sign) → s ≢ Zero → pair_sign d r u v ≡ s → pair_sign d r x y ≡ s → pair_sign d r (u +ℤ x) (v +ℤ y) ≡ s
    same_signs s z e f =
        let c = pair_sign d r x (neg_ℤ y) in
        let some : c ≢ Zero = conjugate_some (λ g. z (sym f ∙ g)) in
        let first : pair_sign d r (re d r u v x (neg_ℤ y)) (im d r u v x (neg_ℤ y)) ≡ product_of s c = pair_sign-times d r u v x (neg_ℤ y) ∙ ap (λ t. product_of t c) e in
        let second : sign_of (norm_of x y d) ≡ product_of s c = own_norm ∙ ap (λ t. product_of t c) f in
        cancel_sign _ _ c some (sum_times ∙ shift (product_of s c) _ _ (norm_of x y d) (product_some s c z some) first second)

    with_nothing : (x ≡ pos 0) × (y ≡ pos 0) → pair_sign d r (u +ℤ x) (v +ℤ y) ≡ pair_sign d r u v
    with_nothing k = ap₂ (pair_sign d r) (ap (λ t. u +ℤ t) k.0 ∙ +ℤ_idr u) (ap (λ t. v +ℤ t) k.1 ∙ +ℤ_idr v)

    pub pair_sign-plus : (s : Sign) → pair_sign d r u v ≡ s → (pair_sign d r x y ≡ s) ⊎ (pair_sign d r x y ≡ Zero) → pair_sign d r (u +ℤ x) (v +ℤ y) ≡ s
    pair_sign-plus s e (inr f) = with_nothing (pair_of_zero d r x y f) ∙ e
    pair_sign-plus Zero e (inl f) = with_nothing (pair_of_zero d r x y f) ∙ e
    pair_sign-plus Minus e (inl f) = same_signs Minus (λ g. code g) e f
    pair_sign-plus Plus e (inl f) = same_signs Plus (λ g. code g) e f
