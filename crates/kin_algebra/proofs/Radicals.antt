-- Numbers d that are positive and no square, and the sign of u + v * sqrt(d) by its norm.
use Rattle.std.proofs.Common.{◌≡◌, ◌≢◌, inr, ℤ, pos, ◌*ℤ◌, neg_ℤ, sym, refl, ap, ap₂, ◌∙◌}
use lib.IntN.{+ℤ_comm}
use Rattle.kin_algebra.specs.declared.sign.Sign.{Sign}
use Rattle.kin_algebra.specs.declared.sign.Sign.TheVariants.{Minus, Zero, Plus}
use Rattle.kin_algebra.specs.Signs.{sign_of, opposite_of, product_of, sum_sign_of, norm_of}
use Rattle.kin_algebra.proofs.Signs.{code, product-Plus, sum_sign-single}
use Rattle.kin_algebra.proofs.IntegerSigns.{sign_of-plus, sign_of-times, sign_of-negative, zero_of}

-- d is positive and no square, not even of a fraction
pub record Radical (d : ℤ) : Type 0 where
  pub positive : sign_of d ≡ Plus
  pub alone : (u v : ℤ) → norm_of u v d ≡ pos 0 → (u ≡ pos 0) × (v ≡ pos 0)

abbrev pub by_norm : Sign → Sign → Sign → Sign
by_norm Plus s t = s
by_norm Zero s t = Zero
by_norm Minus s t = t

sum_sign-by_norm : (s t n : Sign) → (n ≡ Plus → s ≢ Zero) → (n ≡ Minus → t ≢ Zero) → (n ≡ Zero → (s ≡ Zero) × (t ≡ Zero)) → sum_sign_of s t n ≡ by_norm n s t
sum_sign-by_norm Minus Minus Minus p m z = refl
sum_sign-by_norm Minus Minus Zero p m z = absurd (code (z refl).0)
sum_sign-by_norm Minus Minus Plus p m z = refl
sum_sign-by_norm Minus Zero Minus p m z = absurd (m refl refl)
sum_sign-by_norm Minus Zero Zero p m z = absurd (code (z refl).0)
sum_sign-by_norm Minus Zero Plus p m z = refl
sum_sign-by_norm Minus Plus Minus p m z = refl
sum_sign-by_norm Minus Plus Zero p m z = absurd (code (z refl).0)
sum_sign-by_norm Minus Plus Plus p m z = refl
sum_sign-by_norm Zero Minus Minus p m z = refl
sum_sign-by_norm Zero Minus Zero p m z = absurd (code (z refl).1)
sum_sign-by_norm Zero Minus Plus p m z = absurd (p refl refl)
sum_sign-by_norm Zero Zero Minus p m z = absurd (m refl refl)
sum_sign-by_norm Zero Zero Zero p m z = refl
sum_sign-by_norm Zero Zero Plus p m z = absurd (p refl refl)
sum_sign-by_norm Zero Plus Minus p m z = refl
sum_sign-by_norm Zero Plus Zero p m z = absurd (code (z refl).1)
sum_sign-by_norm Zero Plus Plus p m z = absurd (p refl refl)
sum_sign-by_norm Plus Minus Minus p m z = refl
sum_sign-by_norm Plus Minus Zero p m z = absurd (code (z refl).0)
sum_sign-by_norm Plus Minus Plus p m z = refl
sum_sign-by_norm Plus Zero Minus p m z = absurd (m refl refl)
sum_sign-by_norm Plus Zero Zero p m z = absurd (code (z refl).0)
sum_sign-by_norm Plus Zero Plus p m z = refl
sum_sign-by_norm Plus Plus Minus p m z = refl
sum_sign-by_norm Plus Plus Zero p m z = absurd (code (z refl).0)
sum_sign-by_norm Plus Plus Plus p m z = refl

module _ (d : ℤ) (r : Radical d) where
  -- the sign of u + v * sqrt(d)
  abbrev pub pair_sign : ℤ → ℤ → Sign
  pair_sign u v = sum_sign_of (sign_of u) (sign_of v) (sign_of (norm_of u v d))

  scaled_square : (v : ℤ) → sign_of (v *ℤ v *ℤ d) ≡ product_of (sign_of v) (sign_of v)
  scaled_square v = sign_of-times (v *ℤ v) d ∙ ap₂ product_of (sign_of-times v v) r.positive ∙ product-Plus (product_of (sign_of v) (sign_of v))

  norm-without_whole : (u v : ℤ) → sign_of u ≡ Zero → sign_of (norm_of u v d) ≡ opposite_of (product_of (sign_of v) (sign_of v))
  norm-without_whole u v e =
      let square : sign_of (u *ℤ u) ≡ Zero = sign_of-times u u ∙ ap₂ product_of e e in
      ap sign_of (+ℤ_comm (u *ℤ u) (neg_ℤ (v *ℤ v *ℤ d)))
      ∙ sign_of-plus _ (neg_ℤ (v *ℤ v *ℤ d)) (u *ℤ u) refl (inr square)
      ∙ sign_of-negative (v *ℤ v *ℤ d)
      ∙ ap opposite_of (scaled_square v)

  norm-without_root : (u v : ℤ) → sign_of v ≡ Zero → sign_of (norm_of u v d) ≡ product_of (sign_of u) (sign_of u)
  norm-without_root u v e =
      let square : sign_of (neg_ℤ (v *ℤ v *ℤ d)) ≡ Zero = sign_of-negative (v *ℤ v *ℤ d) ∙ ap opposite_of (scaled_square v ∙ ap₂ product_of e e) in
      sign_of-plus _ (u *ℤ u) (neg_ℤ (v *ℤ v *ℤ d)) refl (inr square) ∙ sign_of-times u u

  not_plus : (s : Sign) → opposite_of (product_of s s) ≢ Plus
  not_plus Minus e = code e
  not_plus Zero e = code e
  not_plus Plus e = code e

  not_minus : (s : Sign) → product_of s s ≢ Minus
  not_minus Minus e = code e
  not_minus Zero e = code e
  not_minus Plus e = code e

  pub whole_of_plus : (u v : ℤ) → sign_of (norm_of u v d) ≡ Plus → sign_of u ≢ Zero
  whole_of_plus u v e z = not_plus (sign_of v) (sym (norm-without_whole u v z) ∙ e)

  pub root_of_minus : (u v : ℤ) → sign_of (norm_of u v d) ≡ Minus → sign_of v ≢ Zero
  root_of_minus u v e z = not_minus (sign_of u) (sym (norm-without_root u v z) ∙ e)

  pub nothing_of_zero : (u v : ℤ) → sign_of (norm_of u v d) ≡ Zero → (sign_of u ≡ Zero) × (sign_of v ≡ Zero)
  nothing_of_zero u v e = let k = r.alone u v (zero_of (norm_of u v d) e) in (ap sign_of k.0, ap sign_of k.1)

  -- the sign is that of u where the norm is positive, that of v where it is negative
  pub norm_form : (u v : ℤ) → pair_sign u v ≡ by_norm (sign_of (norm_of u v d)) (sign_of u) (sign_of v)
  norm_form u v = sum_sign-by_norm (sign_of u) (sign_of v) (sign_of (norm_of u v d)) (whole_of_plus u v) (root_of_minus u v) (nothing_of_zero u v)

  pub pair_of_zero : (u v : ℤ) → pair_sign u v ≡ Zero → (u ≡ pos 0) × (v ≡ pos 0)
  pair_of_zero u v e = go (sign_of (norm_of u v d)) refl (sym (norm_form u v) ∙ e)
    where
      go : (n : Sign) → sign_of (norm_of u v d) ≡ n → by_norm n (sign_of u) (sign_of v) ≡ Zero → (u ≡ pos 0) × (v ≡ pos 0)
      go Minus f g = absurd (root_of_minus u v f g)
      go Zero f g = r.alone u v (zero_of (norm_of u v d) f)
      go Plus f g = absurd (whole_of_plus u v f g)

  pub pair_sign-whole : (k : ℤ) → pair_sign k (pos 0) ≡ sign_of k
  pair_sign-whole k = sum_sign-single (sign_of k) (sign_of (norm_of k (pos 0) d))
