-- Examples of identities and of arguments with signs, which docs/ALGEBRA.md explains.
use Rattle.std.proofs.Common.{◌≡◌, inl, [], ◌∷◌, sym, refl, ap, ◌∙◌, subst}
use Rattle.std.specs.Prelude.{ℤ, pos, ◌+ℤ◌, ◌*ℤ◌}
use Rattle.kin_algebra.specs.declared.sign.Sign.TheVariants.{Plus}
use Rattle.kin_algebra.proofs.Rings.{CommutativeRing}
use Rattle.kin_algebra.proofs.Operations.{operations}
use Rattle.kin_algebra.proofs.Ring.{by_ring, quotes, by_identity, quotes_in}
use Rattle.kin_algebra.proofs.Signs.{AtLeast}
use Rattle.kin_algebra.proofs.OrderedRings.{OrderedRing, positive_sum, positive_product, nonnegative_product, positive_cancel, sign_square}

-- an identity of whole numbers
pub square_of_sum : (a b : ℤ) → (a +ℤ b) *ℤ (a +ℤ b) ≡ a *ℤ a +ℤ pos 2 *ℤ a *ℤ b +ℤ b *ℤ b
square_of_sum a b = by_ring (a ∷ b ∷ []) _ _ (search quotes depth 20) (search quotes depth 20) refl

-- the same in any commutative ring
module _ {R : Type 0} (r : CommutativeRing R) where
  pub square_of_sum_in : (a b : R) → r.times (r.plus a b) (r.plus a b) ≡ r.plus (r.plus (r.times a a) (r.times (r.times (r.whole (pos 2)) a) b)) (r.times b b)
  square_of_sum_in a b = by_identity r (a ∷ b ∷ []) _ _ (search quotes_in depth 20) (search quotes_in depth 20) refl

module _ {R : Type 0} (o : OrderedRing R) where
  open operations o.ring use {◌·◌, ◌⊕◌, ◌⊖◌}

  -- ---- slopes fall transitively
  -- positive where the slope b/a is greater than d/c, for positive a and c
  abbrev pub fall : R → R → R → R → R
  fall a b c d = (b · c) ⊖ (d · a)

  pub slopes_fall : (a b c d e f : R) → o.sign a ≡ Plus → o.sign c ≡ Plus → o.sign e ≡ Plus → o.sign (fall a b c d) ≡ Plus → AtLeast (o.sign (fall c d e f)) → o.sign (fall a b e f) ≡ Plus
  slopes_fall a b c d e f a_plus c_plus e_plus first second =
      positive_cancel o c_plus (ap o.sign (sym weighted) ∙ positive_sum o (positive_product o e_plus first) (nonnegative_product o (inl a_plus) second))
    where
      weighted : (e · fall a b c d) ⊕ (a · fall c d e f) ≡ c · fall a b e f
      weighted = by_identity o.ring (a ∷ b ∷ c ∷ d ∷ e ∷ f ∷ []) _ _ (search quotes_in depth 20) (search quotes_in depth 20) refl

  -- ---- a sum of squares
  -- (x1*x1 + y1*y1) * (x2*x2 + y2*y2) is at least the square of x1*x2 + y1*y2
  pub inner_product_most : (x1 y1 x2 y2 : R) → AtLeast (o.sign ((((x1 · x1) ⊕ (y1 · y1)) · ((x2 · x2) ⊕ (y2 · y2))) ⊖ (((x1 · x2) ⊕ (y1 · y2)) · ((x1 · x2) ⊕ (y1 · y2)))))
  inner_product_most x1 y1 x2 y2 = subst (λ x. AtLeast (o.sign x)) (sym as_square) (sign_square o ((x1 · y2) ⊖ (x2 · y1)))
    where
      as_square : (((x1 · x1) ⊕ (y1 · y1)) · ((x2 · x2) ⊕ (y2 · y2))) ⊖ (((x1 · x2) ⊕ (y1 · y2)) · ((x1 · x2) ⊕ (y1 · y2))) ≡ ((x1 · y2) ⊖ (x2 · y1)) · ((x1 · y2) ⊖ (x2 · y1))
      as_square = by_identity o.ring (x1 ∷ y1 ∷ x2 ∷ y2 ∷ []) _ _ (search quotes_in depth 30) (search quotes_in depth 30) refl
