-- In an ordered ring: a polynomial that is positive at Z/Q is positive at each fraction k/T near by.
use Rattle.std.proofs.Common.{◌≡◌, inl, inr, [], ◌∷◌, refl, sym, ap, ◌∙◌, subst}
use Rattle.std.specs.Prelude.{pos}
use Rattle.kin_algebra.specs.declared.sign.Sign.TheVariants.{Zero, Plus}
use Rattle.kin_algebra.proofs.Operations.{operations}
use Rattle.kin_algebra.proofs.Ring.{by_identity, quotes_in}
use Rattle.kin_algebra.proofs.OrderedRings.{OrderedRing, positive_sum, nonnegative_sum, positive_product, nonnegative_product, positive_cancel, sign_twice}
use Rattle.kin_algebra.proofs.Bounds.{Between, product_between, sum_between, gap, IsApart, nearby, value_decides}
use Rattle.kin_algebra.specs.Signs.{product_of}
use Rattle.kin_algebra.proofs.Signs.{AtLeast, product-Plus, product-Zero}

module _ {R : Type 0} (o : OrderedRing R) where
  open operations o.ring use {◌·◌, ◌⊕◌, ◌⊖◌}

  -- the value of a*t^2 + b*t + c at Z/Q, times Q*Q
  abbrev pub value_in : R → R → R → R → R → R
  value_in a b c Q Z = ((a · (Z · Z)) ⊕ (b · (Q · Z))) ⊕ (c · (Q · Q))

  -- the value of the derivative there, times Q
  abbrev pub slope_in : R → R → R → R → R
  slope_in a b Q Z = ((a ⊕ a) · Z) ⊕ (b · Q)

  -- Z/Q and k/T lie apart by this, divided by Q*T
  abbrev pub apart_in : R → R → R → R → R
  apart_in Q Z T k = (Q · k) ⊖ (T · Z)

  -- a bound of the value, and one of the slope
  abbrev pub value_most : R → R → R
  value_most H W = ((H · (W · W)) ⊕ (H · (W · W))) ⊕ (H · (W · W))

  abbrev pub slope_most : R → R → R
  slope_most H W = ((H ⊕ H) · W) ⊕ (H · W)

  -- T larger than this is fine enough
  abbrev pub fine : R → R → R
  fine H W = value_most H W · ((slope_most H W · W) ⊕ (H · (W · W)))

  module _ (a b c Q H W : R) where
    abbrev A : R → R
    A Z = value_in a b c Q Z

    pub record AreBounded : Type 0 where
      pub a_most : Between o H a
      pub b_most : Between o H b
      pub c_most : Between o H c
      pub divisor_most : Between o W Q
      pub H_positive : o.sign H ≡ Plus
      pub W_positive : o.sign W ≡ Plus

    pub value_between : AreBounded → (Z : R) → Between o W Z → Between o (value_most H W) (A Z)
    value_between k Z z =
        sum_between o
        (sum_between o (product_between o k.a_most (product_between o z z)) (product_between o k.b_most (product_between o k.divisor_most z)))
        (product_between o k.c_most (product_between o k.divisor_most k.divisor_most))

    slope_between : AreBounded → (Z : R) → Between o W Z → Between o (slope_most H W) (slope_in a b Q Z)
    slope_between k Z z = sum_between o (product_between o (sum_between o k.a_most k.a_most) z) (product_between o k.b_most k.divisor_most)

    value_most-positive : AreBounded → o.sign (value_most H W) ≡ Plus
    value_most-positive k =
        let one = positive_product o k.H_positive (positive_product o k.W_positive k.W_positive) in
        positive_sum o (positive_sum o one (inl one)) (inl one)

    module _ (T k Z : R) where
      expanded : nearby o (A Z) (slope_in a b Q Z) (apart_in Q Z T k) a T (value_most H W) (slope_most H W) W H ≡ (Q · Q) · value_in a b c T k
      expanded = by_identity o.ring (a ∷ b ∷ c ∷ Q ∷ T ∷ k ∷ Z ∷ []) _ _ (search quotes_in depth 40 fits 40000) (search quotes_in depth 40 fits 40000) refl

      pub near : AreBounded → (Z' : R) → Between o W Z → Between o W Z' → IsApart o (A Z) (A Z') → o.sign (A Z) ≡ Plus → o.sign Q ≡ Plus
          → o.sign T ≡ Plus → AtLeast (o.sign (T ⊖ o.ring.whole (pos 1))) → o.sign (T ⊖ fine H W) ≡ Plus → Between o W (apart_in Q Z T k)
          → o.sign (value_in a b c T k) ≡ Plus
      near bounds Z' z z' apart e q t t1 enough close =
          positive_cancel o (positive_product o q q)
          (ap o.sign (sym expanded)
          ∙ value_decides o (A Z) (slope_in a b Q Z) (apart_in Q Z T k) a T (value_most H W) (slope_most H W) W H
          (gap o (A Z) (A Z') (value_most H W) e (value_between bounds Z' z') apart)
          (slope_between bounds Z z) close bounds.a_most (inl bounds.H_positive) (inl bounds.W_positive)
          (value_most-positive bounds) t t1 enough)

    module _ (T Z : R) where
      -- the value at Z/Q + 1/T, times Q*Q*T*T
      abbrev pub value_after : R
      value_after = value_in a b c (Q · T) ((Z · T) ⊕ Q)

      after_expanded : nearby o (A Z) (slope_in a b Q Z) Q a T (value_most H W) (slope_most H W) W H ≡ value_after
      after_expanded = by_identity o.ring (a ∷ b ∷ c ∷ Q ∷ T ∷ Z ∷ []) _ _ (search quotes_in depth 40 fits 40000) (search quotes_in depth 40 fits 40000) refl

      pub after : AreBounded → (Z' : R) → Between o W Z → Between o W Z' → IsApart o (A Z) (A Z') → o.sign (A Z) ≡ Plus
          → o.sign T ≡ Plus → AtLeast (o.sign (T ⊖ o.ring.whole (pos 1))) → o.sign (T ⊖ fine H W) ≡ Plus
          → o.sign value_after ≡ Plus
      after bounds Z' z z' apart e t t1 enough =
          ap o.sign (sym after_expanded)
          ∙ value_decides o (A Z) (slope_in a b Q Z) Q a T (value_most H W) (slope_most H W) W H
          (gap o (A Z) (A Z') (value_most H W) e (value_between bounds Z' z') apart)
          (slope_between bounds Z z) bounds.divisor_most bounds.a_most (inl bounds.H_positive) (inl bounds.W_positive)
          (value_most-positive bounds) t t1 enough

      -- ---- where the value has sign 0
      abbrev rest : R
      rest = (T · (slope_in a b Q Z · Q)) ⊕ (a · (Q · Q))

      after_parts : value_after ≡ rest ⊕ ((T · T) · A Z)
      after_parts = by_identity o.ring (a ∷ b ∷ c ∷ Q ∷ T ∷ Z ∷ []) _ _ (search quotes_in depth 40 fits 40000) (search quotes_in depth 40 fits 40000) refl

      pub product_nothing : (x y : R) → o.sign y ≡ Zero → o.sign (x · y) ≡ Zero
      product_nothing x y e = o.sign_times x y ∙ ap (product_of (o.sign x)) e ∙ product-Zero (o.sign x)

      without_value : o.sign (A Z) ≡ Zero → o.sign value_after ≡ o.sign rest
      without_value e = ap o.sign after_parts ∙ o.sign_plus (o.sign rest) rest ((T · T) · A Z) refl (inr (product_nothing (T · T) (A Z) e))

      -- the slope decides, where it does so for the derivative
      abbrev slope_later : R
      slope_later = value_in (o.ring.whole (pos 0)) (a ⊕ a) b (Q · T) ((Z · T) ⊕ Q)

      slope_parts : slope_later ≡ (T · Q) · ((T · slope_in a b Q Z) ⊕ ((a ⊕ a) · Q))
      slope_parts = by_identity o.ring (a ∷ b ∷ Q ∷ T ∷ Z ∷ []) _ _ (search quotes_in depth 40 fits 40000) (search quotes_in depth 40 fits 40000) refl

      twice_parts : ((T · slope_in a b Q Z) ⊕ ((a ⊕ a) · Q)) ⊕ (T · slope_in a b Q Z) ≡ ((T · slope_in a b Q Z) ⊕ (a · Q)) ⊕ ((T · slope_in a b Q Z) ⊕ (a · Q))
      twice_parts = by_identity o.ring (a ∷ b ∷ Q ∷ T ∷ Z ∷ []) _ _ (search quotes_in depth 40 fits 40000) (search quotes_in depth 40 fits 40000) refl

      rest_parts : rest ≡ Q · ((T · slope_in a b Q Z) ⊕ (a · Q))
      rest_parts = by_identity o.ring (a ∷ b ∷ Q ∷ T ∷ Z ∷ []) _ _ (search quotes_in depth 40 fits 40000) (search quotes_in depth 40 fits 40000) refl

      pub after_slope : o.sign T ≡ Plus → o.sign Q ≡ Plus → o.sign (A Z) ≡ Zero → o.sign (slope_in a b Q Z) ≡ Plus → o.sign slope_later ≡ Plus → o.sign value_after ≡ Plus
      after_slope t q e f later =
          let double = positive_cancel o {a = T · Q} {b = (T · slope_in a b Q Z) ⊕ ((a ⊕ a) · Q)} (positive_product o t q) (ap o.sign (sym slope_parts) ∙ later) in
          let both = positive_sum o {a = (T · slope_in a b Q Z) ⊕ ((a ⊕ a) · Q)} {b = T · slope_in a b Q Z} double (inl (positive_product o t f)) in
          let one : o.sign ((T · slope_in a b Q Z) ⊕ (a · Q)) ≡ Plus = sym (sign_twice o _) ∙ ap o.sign (sym twice_parts) ∙ both in
          without_value e ∙ ap o.sign rest_parts ∙ positive_product o q one

      -- the second coefficient decides
      pub after_second : o.sign Q ≡ Plus → o.sign (A Z) ≡ Zero → o.sign (slope_in a b Q Z) ≡ Zero → o.sign value_after ≡ o.sign a
      after_second q e f =
          let nothing : o.sign (T · (slope_in a b Q Z · Q)) ≡ Zero = product_nothing T _ (ap o.sign (o.ring.times_comm (slope_in a b Q Z) Q) ∙ product_nothing Q _ f) in
          let square : o.sign (a · (Q · Q)) ≡ o.sign a = o.sign_times a (Q · Q) ∙ ap (product_of (o.sign a)) (positive_product o q q) ∙ product-Plus (o.sign a) in
          without_value e ∙ ap o.sign (o.ring.plus_comm (T · (slope_in a b Q Z · Q)) (a · (Q · Q))) ∙ o.sign_plus (o.sign a) (a · (Q · Q)) (T · (slope_in a b Q Z · Q)) square (inr nothing)

  -- ---- far to the left of Z/Q and far to its right; P stands for Q - 1
  pub far_left : (T W Z Q P : R) → AtLeast (o.sign T) → AtLeast (o.sign W) → Between o W Z → AtLeast (o.sign P) → o.sign Q ≡ Plus → o.sign (Q ⊕ ((T · (W ⊕ Z)) ⊕ ((T · W) · P))) ≡ Plus
  far_left T W Z Q P t w z p q = positive_sum o q (nonnegative_sum o (nonnegative_product o t z.below) (nonnegative_product o (nonnegative_product o t w) p))

  pub far_right : (T W Z P : R) → AtLeast (o.sign T) → AtLeast (o.sign W) → Between o W Z → AtLeast (o.sign P) → AtLeast (o.sign ((T · (W ⊖ Z)) ⊕ ((T · W) · P)))
  far_right T W Z P t w z p = nonnegative_sum o (nonnegative_product o t z.above) (nonnegative_product o (nonnegative_product o t w) p)

  -- ---- two places around Z/Q: E and -P, where E + P = Q, lie between -W and W
  module _ (W Q E P : R) (total : E ⊕ P ≡ Q) (q : Between o W Q) (w : AtLeast (o.sign W)) (e : AtLeast (o.sign E)) (p : AtLeast (o.sign P)) where
    pub right_close : Between o W E
    right_close = record { above = subst (λ x. AtLeast (o.sign x)) (rest ∙ ap (λ x. (W ⊖ Q) ⊕ (x ⊖ E)) total ∙ last) (nonnegative_sum o q.above p); below = nonnegative_sum o w e }
      where
        rest : (W ⊖ Q) ⊕ P ≡ (W ⊖ Q) ⊕ ((E ⊕ P) ⊖ E)
        rest = by_identity o.ring (W ∷ Q ∷ E ∷ P ∷ []) _ _ (search quotes_in depth 20) (search quotes_in depth 20) refl

        last : (W ⊖ Q) ⊕ (Q ⊖ E) ≡ W ⊖ E
        last = by_identity o.ring (W ∷ Q ∷ E ∷ []) _ _ (search quotes_in depth 20) (search quotes_in depth 20) refl

    pub left_close : Between o W (o.ring.negative P)
    left_close = record { above = subst (λ x. AtLeast (o.sign x)) turned (nonnegative_sum o w p); below = subst (λ x. AtLeast (o.sign x)) (rest ∙ ap (λ x. (W ⊖ Q) ⊕ (x ⊖ P)) total ∙ last) (nonnegative_sum o q.above e) }
      where
        turned : W ⊕ P ≡ W ⊖ o.ring.negative P
        turned = by_identity o.ring (W ∷ P ∷ []) _ _ (search quotes_in depth 20) (search quotes_in depth 20) refl

        rest : (W ⊖ Q) ⊕ E ≡ (W ⊖ Q) ⊕ ((E ⊕ P) ⊖ P)
        rest = by_identity o.ring (W ∷ Q ∷ E ∷ P ∷ []) _ _ (search quotes_in depth 20) (search quotes_in depth 20) refl

        last : (W ⊖ Q) ⊕ (Q ⊖ P) ≡ W ⊕ o.ring.negative P
        last = by_identity o.ring (W ∷ Q ∷ P ∷ []) _ _ (search quotes_in depth 20) (search quotes_in depth 20) refl
