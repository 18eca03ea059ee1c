-- The two-term rule: one use of the identity of three vectors.
use Rattle.std.proofs.Common.{◌≡◌, inl, sym, ap, ◌∙◌, subst}
use Rattle.kin_algebra.specs.declared.sign.Sign.TheVariants.{Zero, Plus}
use Rattle.kin_algebra.specs.Signs.{product_of}
use Rattle.kin_algebra.proofs.Operations.{operations}
use Rattle.kin_algebra.proofs.Vectors.{Vector, cross, three}
use Rattle.kin_algebra.proofs.Signs.{AtLeast, product-Zero}
use Rattle.kin_algebra.proofs.OrderedRings.{OrderedRing, scale, nonnegative_sum, sum_zero, nonnegative_product}

module _ {R : Type 0} (o : OrderedRing R) where
  open operations o.ring use {◌·◌, ◌⊕◌, ◌⊖◌}

  from_scaled : {a b : R} → o.sign a ≡ Plus → AtLeast (o.sign (a · b)) → AtLeast (o.sign b)
  from_scaled {a} {b} e = subst AtLeast (scale o b e)

  -- b lies at least as far to the left of c as a sum of two terms that are at least 0 allows
  pub two_terms : (a b c : Vector R) → o.sign b.x ≡ Plus → AtLeast (o.sign c.x) → AtLeast (o.sign (cross o a b)) → AtLeast (o.sign a.x) → AtLeast (o.sign (cross o b c)) → AtLeast (o.sign (cross o a c))
  two_terms a b c right c_right ab a_right bc =
      from_scaled right (subst (λ (z : R). AtLeast (o.sign z)) (sym (three o a b c)) (nonnegative_sum o (nonnegative_product o {a = c.x} c_right ab) (nonnegative_product o {a = a.x} a_right bc)))

  -- where it is 0, both terms are
  pub no_terms : (a b c : Vector R) → o.sign c.x ≡ Plus → AtLeast (o.sign (cross o a b)) → o.sign a.x ≡ Plus → AtLeast (o.sign (cross o b c)) → o.sign (cross o a c) ≡ Zero → (o.sign (cross o a b) ≡ Zero) × (o.sign (cross o b c) ≡ Zero)
  no_terms a b c c_right ab a_right bc e = (sym (scale o (cross o a b) c_right) ∙ zeros.0, sym (scale o (cross o b c) a_right) ∙ zeros.1)
    where
      sum : o.sign ((c.x · cross o a b) ⊕ (a.x · cross o b c)) ≡ Zero
      sum = sym (ap o.sign (three o a b c)) ∙ o.sign_times b.x (cross o a c) ∙ ap (product_of (o.sign b.x)) e ∙ product-Zero (o.sign b.x)

      zeros : (o.sign (c.x · cross o a b) ≡ Zero) × (o.sign (a.x · cross o b c) ≡ Zero)
      zeros = sum_zero o (nonnegative_product o {a = c.x} (inl c_right) ab) (nonnegative_product o {a = a.x} (inl a_right) bc) sum
