-- Ordered rings: a sign with four laws, and what holds in each of them.
use Rattle.std.proofs.Common.{◌≡◌, ◌≢◌, ◌⊎◌, inl, inr, [], ◌∷◌, sym, refl, ap, ap₂, ◌∙◌, subst}
use Rattle.std.specs.Prelude.{pos}
use Rattle.kin_algebra.specs.declared.sign.Sign.{Sign}
use Rattle.kin_algebra.specs.declared.sign.Sign.TheVariants.{Minus, Zero, Plus}
use Rattle.kin_algebra.specs.Signs.{opposite_of, product_of, SumMayBe}
use Rattle.kin_algebra.proofs.Rings.{CommutativeRing}
use Rattle.kin_algebra.proofs.Operations.{operations}
use Rattle.kin_algebra.proofs.Ring.{by_identity, quotes_in}
use Rattle.kin_algebra.proofs.Signs.{AtLeast, code, at_least_product, cancel_sign, same_from_product, square_at_least}

-- it isn't asked that only 0 has sign 0
pub record OrderedRing (R : Type 0) : Type 0 where
  pub ring : CommutativeRing R
  pub sign : R → Sign
  pub sign_one : sign (ring.whole (pos 1)) ≡ Plus
  pub sign_negative : (a : R) → sign (ring.negative a) ≡ opposite_of (sign a)
  pub sign_times : (a b : R) → sign (ring.times a b) ≡ product_of (sign a) (sign b)
  pub sign_plus : (s : Sign) (a b : R) → sign a ≡ s → (sign b ≡ s) ⊎ (sign b ≡ Zero) → sign (ring.plus a b) ≡ s

module _ {R : Type 0} (o : OrderedRing R) where
  open operations o.ring use {◌·◌, ◌⊕◌, ◌⊖◌}

  abbrev pub one : R
  one = o.ring.whole (pos 1)

  -- a is positive
  abbrev pub Positive : R → Type 0
  Positive a = o.sign a ≡ Plus

  -- a is at least 0
  abbrev pub NonNegative : R → Type 0
  NonNegative a = AtLeast (o.sign a)

  -- ---- sums
  pub sign_twice : (a : R) → o.sign (a ⊕ a) ≡ o.sign a
  sign_twice a = o.sign_plus (o.sign a) a a refl (inl refl)

  pub positive_sum : {a b : R} → Positive a → NonNegative b → Positive (a ⊕ b)
  positive_sum {a} {b} e k = o.sign_plus Plus a b e k

  pub nonnegative_sum : {a b : R} → NonNegative a → NonNegative b → NonNegative (a ⊕ b)
  nonnegative_sum {a} {b} (inl e) k = inl (o.sign_plus Plus a b e k)
  nonnegative_sum {a} {b} (inr e) (inl f) = inl (ap o.sign (o.ring.plus_comm a b) ∙ o.sign_plus Plus b a f (inr e))
  nonnegative_sum {a} {b} (inr e) (inr f) = inr (o.sign_plus Zero a b e (inr f))

  -- a sum of sign 0 of two numbers that are at least 0 has summands of sign 0
  pub sum_zero : {a b : R} → NonNegative a → NonNegative b → o.sign (a ⊕ b) ≡ Zero → (o.sign a ≡ Zero) × (o.sign b ≡ Zero)
  sum_zero {a} {b} (inl e) k z = absurd (code (sym z ∙ o.sign_plus Plus a b e k))
  sum_zero {a} {b} (inr e) (inl f) z = absurd (code (sym z ∙ ap o.sign (o.ring.plus_comm a b) ∙ o.sign_plus Plus b a f (inr e)))
  sum_zero {a} {b} (inr e) (inr f) z = (e, f)

  -- what the signs of two numbers say of the sign of their sum
  pub sum_may_be : (a b : R) → SumMayBe (o.sign a) (o.sign b) (o.sign (a ⊕ b))
  sum_may_be a b = at (o.sign a) refl (o.sign b) refl
    where
      at : (s : Sign) → o.sign a ≡ s → (t : Sign) → o.sign b ≡ t → SumMayBe s t (o.sign (a ⊕ b))
      at Zero e t f = ap o.sign (o.ring.plus_comm a b) ∙ o.sign_plus t b a f (inr e)
      at Plus e Plus f = o.sign_plus Plus a b e (inl f)
      at Plus e Zero f = o.sign_plus Plus a b e (inr f)
      at Plus e Minus f = tt
      at Minus e Plus f = tt
      at Minus e Zero f = o.sign_plus Minus a b e (inr f)
      at Minus e Minus f = o.sign_plus Minus a b e (inl f)

  -- ---- products
  pub positive_product : {a b : R} → Positive a → Positive b → Positive (a · b)
  positive_product {a} {b} e f = o.sign_times a b ∙ ap₂ product_of e f

  pub nonnegative_product : {a b : R} → NonNegative a → NonNegative b → NonNegative (a · b)
  nonnegative_product {a} {b} h k = subst AtLeast (sym (o.sign_times a b)) (at_least_product (o.sign a) (o.sign b) h k)

  pub sign_square : (a : R) → NonNegative (a · a)
  sign_square a = subst AtLeast (sym (o.sign_times a a)) (square_at_least (o.sign a))

  -- a factor of sign + changes no sign
  pub scale : {a : R} (b : R) → Positive a → o.sign (a · b) ≡ o.sign b
  scale {a} b e = o.sign_times a b ∙ ap (λ s. product_of s (o.sign b)) e

  -- equal signs of two products with one factor that isn't of sign 0
  pub cancel : (a b c : R) → o.sign c ≢ Zero → o.sign (a · c) ≡ o.sign (b · c) → o.sign a ≡ o.sign b
  cancel a b c n e = cancel_sign (o.sign a) (o.sign b) (o.sign c) n (sym (o.sign_times a c) ∙ e ∙ o.sign_times b c)

  pub positive_cancel : {a b : R} → Positive a → Positive (a · b) → Positive b
  positive_cancel {a} {b} e f = sym (scale b e) ∙ f

  -- ---- squares
  difference_of_squares : (p q : R) → (p ⊕ q) · (p ⊖ q) ≡ (p · p) ⊖ (q · q)
  difference_of_squares p q = by_identity o.ring (p ∷ q ∷ []) _ _ (search quotes_in depth 20) (search quotes_in depth 20) refl

  sum_and_difference : (p q : R) → (p ⊕ q) ⊕ (p ⊖ q) ≡ p ⊕ p
  sum_and_difference p q = by_identity o.ring (p ∷ q ∷ []) _ _ (search quotes_in depth 20) (search quotes_in depth 20) refl

  -- the one with the greater square decides the sign of a sum
  pub dominate : (p q : R) → Positive ((p · p) ⊖ (q · q)) → (o.sign (p ⊕ q) ≡ o.sign p) × (o.sign p ≢ Zero)
  dominate p q h =
      let e : product_of (o.sign (p ⊕ q)) (o.sign (p ⊖ q)) ≡ Plus = sym (o.sign_times (p ⊕ q) (p ⊖ q)) ∙ ap o.sign (difference_of_squares p q) ∙ h in
      let k = same_from_product _ _ e in
      let f : o.sign p ≡ o.sign (p ⊕ q) = sym (sign_twice p) ∙ ap o.sign (sym (sum_and_difference p q)) ∙ o.sign_plus (o.sign (p ⊕ q)) (p ⊕ q) (p ⊖ q) refl (inl (sym k.0)) in
      (sym f, λ z. k.1 (sym f ∙ z))
