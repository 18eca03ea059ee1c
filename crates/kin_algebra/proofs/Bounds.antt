-- Bounds of size in an ordered ring, and the two inequalities that keep numbers apart.
use Rattle.std.proofs.Common.{◌≡◌, ◌⊎◌, inl, inr, [], ◌∷◌, sym, refl, ap, ◌∙◌, subst}
use Rattle.std.specs.Prelude.{pos}
use Rattle.kin_algebra.specs.declared.sign.Sign.TheVariants.{Plus}
use Rattle.kin_algebra.proofs.Operations.{operations}
use Rattle.kin_algebra.proofs.Ring.{by_identity, quotes_in}
use Rattle.kin_algebra.proofs.OrderedRings.{OrderedRing, positive_sum, nonnegative_sum, sign_twice, positive_product, nonnegative_product, positive_cancel}
use Rattle.kin_algebra.proofs.Signs.{AtLeast}

module _ {R : Type 0} (o : OrderedRing R) where
  open operations o.ring use {◌·◌, ◌⊕◌, ◌⊖◌}

  abbrev one : R
  one = o.ring.whole (pos 1)

  abbrev Positive : R → Type 0
  Positive a = o.sign a ≡ Plus

  abbrev NonNegative : R → Type 0
  NonNegative a = AtLeast (o.sign a)

  -- -X ≤ x ≤ X
  pub record Between (X x : R) : Type 0 where
    pub above : NonNegative (X ⊖ x)
    pub below : NonNegative (X ⊕ x)

  half : (a : R) → NonNegative (a ⊕ a) → NonNegative a
  half a h = subst AtLeast (sign_twice o a) h

  pub product_between : {X x Y y : R} → Between X x → Between Y y → Between (X · Y) (x · y)
  product_between {X} {x} {Y} {y} h k = record {
    above = half _ (subst NonNegative upper (nonnegative_sum o (nonnegative_product o h.above k.below) (nonnegative_product o h.below k.above)));
    below = half _ (subst NonNegative lower (nonnegative_sum o (nonnegative_product o h.above k.above) (nonnegative_product o h.below k.below)));
  }
    where
      upper : ((X ⊖ x) · (Y ⊕ y)) ⊕ ((X ⊕ x) · (Y ⊖ y)) ≡ ((X · Y) ⊖ (x · y)) ⊕ ((X · Y) ⊖ (x · y))
      upper = by_identity o.ring (X ∷ x ∷ Y ∷ y ∷ []) _ _ (search quotes_in depth 20) (search quotes_in depth 20) refl

      lower : ((X ⊖ x) · (Y ⊖ y)) ⊕ ((X ⊕ x) · (Y ⊕ y)) ≡ ((X · Y) ⊕ (x · y)) ⊕ ((X · Y) ⊕ (x · y))
      lower = by_identity o.ring (X ∷ x ∷ Y ∷ y ∷ []) _ _ (search quotes_in depth 20) (search quotes_in depth 20) refl

  pub sum_between : {X x Y y : R} → Between X x → Between Y y → Between (X ⊕ Y) (x ⊕ y)
  sum_between {X} {x} {Y} {y} h k = record {
    above = subst NonNegative upper (nonnegative_sum o h.above k.above);
    below = subst NonNegative lower (nonnegative_sum o h.below k.below);
  }
    where
      upper : (X ⊖ x) ⊕ (Y ⊖ y) ≡ (X ⊕ Y) ⊖ (x ⊕ y)
      upper = by_identity o.ring (X ∷ x ∷ Y ∷ y ∷ []) _ _ (search quotes_in depth 20) (search quotes_in depth 20) refl

      lower : (X ⊕ x) ⊕ (Y ⊕ y) ≡ (X ⊕ Y) ⊕ (x ⊕ y)
      lower = by_identity o.ring (X ∷ x ∷ Y ∷ y ∷ []) _ _ (search quotes_in depth 20) (search quotes_in depth 20) refl

  pub wider_between : {X Y x : R} → NonNegative (Y ⊖ X) → Between X x → Between Y x
  wider_between {X} {Y} {x} w h = record {
    above = subst NonNegative upper (nonnegative_sum o w h.above);
    below = subst NonNegative lower (nonnegative_sum o w h.below);
  }
    where
      upper : (Y ⊖ X) ⊕ (X ⊖ x) ≡ Y ⊖ x
      upper = by_identity o.ring (X ∷ Y ∷ x ∷ []) _ _ (search quotes_in depth 20) (search quotes_in depth 20) refl

      lower : (Y ⊖ X) ⊕ (X ⊕ x) ≡ Y ⊕ x
      lower = by_identity o.ring (X ∷ Y ∷ x ∷ []) _ _ (search quotes_in depth 20) (search quotes_in depth 20) refl

  -- x · c is at least 1 or at most -1
  abbrev pub IsApart : R → R → Type 0
  IsApart x c = NonNegative ((x · c) ⊖ one) ⊎ NonNegative (o.ring.negative (x · c) ⊖ one)

  -- a positive x whose product with some c is apart from 0 isn't small: C · x is at least 1 where c lies between -C and C
  pub gap : (x c C : R) → Positive x → Between C c → IsApart x c → NonNegative ((C · x) ⊖ one)
  gap x c C e h (inl n) = subst NonNegative over (nonnegative_sum o (nonnegative_product o (inl e) h.above) n)
    where
      over : (x · (C ⊖ c)) ⊕ ((x · c) ⊖ one) ≡ (C · x) ⊖ one
      over = by_identity o.ring (x ∷ c ∷ C ∷ []) _ _ (search quotes_in depth 20) (search quotes_in depth 20) refl
  gap x c C e h (inr n) = subst NonNegative under (nonnegative_sum o (nonnegative_product o (inl e) h.below) n)
    where
      under : (x · (C ⊕ c)) ⊕ (o.ring.negative (x · c) ⊖ one) ≡ (C · x) ⊖ one
      under = by_identity o.ring (x ∷ c ∷ C ∷ []) _ _ (search quotes_in depth 20) (search quotes_in depth 20) refl

  -- where T is large, T·T·A decides the sign of T·T·A + T·B·e + p·e·e
  module _ (A B e p T C K E P : R) where
    abbrev pub nearby : R
    nearby = (((T · T) · A) ⊕ (T · (B · e))) ⊕ (p · (e · e))

    abbrev pub largest : R
    largest = C · ((K · E) ⊕ (P · (E · E)))

    by_parts :
        (T · (T ⊖ largest)) ⊕ (((T · T) · ((C · A) ⊖ one)) ⊕ ((C · (T · ((K · E) ⊕ (B · e)))) ⊕ ((C · ((P · (E · E)) ⊕ (p · (e · e)))) ⊕ (C · ((T ⊖ one) · (P · (E · E)))))))
        ≡ C · nearby
    by_parts = by_identity o.ring (A ∷ B ∷ e ∷ p ∷ T ∷ C ∷ K ∷ E ∷ P ∷ []) _ _ (search quotes_in depth 40 fits 40000) (search quotes_in depth 40 fits 40000) refl

    pub value_decides : NonNegative ((C · A) ⊖ one) → Between K B → Between E e → Between P p → NonNegative P → NonNegative E
        → Positive C → Positive T → NonNegative (T ⊖ one) → Positive (T ⊖ largest) → Positive nearby
    value_decides a b d q P0 E0 c t t1 fine =
        let C0 : NonNegative C = inl c in
        let T0 : NonNegative T = inl t in
        let rest = nonnegative_sum o (nonnegative_product o (nonnegative_product o T0 T0) a)
        (nonnegative_sum o (nonnegative_product o C0 (nonnegative_product o T0 (product_between b d).below))
        (nonnegative_sum o (nonnegative_product o C0 (product_between q (product_between d d)).below)
        (nonnegative_product o C0 (nonnegative_product o t1 (nonnegative_product o P0 (nonnegative_product o E0 E0)))))) in
        positive_cancel o c (ap o.sign (sym by_parts) ∙ positive_sum o (positive_product o t fine) rest)
