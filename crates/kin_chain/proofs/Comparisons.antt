-- Numbers compared by a value in an ordered ring: by x, by y, or by the height along a direction.
use Rattle.std.proofs.Common.{◌≡◌, ◌⊎◌, inl, inr, [], ◌∷◌, ℕ, sym, refl, ap, ◌∙◌, subst}
use Rattle.kin_algebra.specs.declared.sign.Sign.{Sign}
use Rattle.kin_algebra.specs.declared.sign.Sign.TheVariants.{Minus, Zero, Plus}
use Rattle.kin_algebra.specs.Signs.{opposite_of, SumMayBe}
use Rattle.kin_algebra.proofs.Ring.{by_identity, quotes_in}
use Rattle.kin_algebra.proofs.Signs.{AtLeast, code, zero_from_opposite}
use Rattle.kin_algebra.proofs.OrderedRings.{OrderedRing, positive_sum, nonnegative_sum, sum_may_be}

module _ {R : Type 0} (o : OrderedRing R) where
  -- the step from i to j
  abbrev pub way : (ℕ → R) → ℕ → ℕ → R
  way v i j = o.ring.plus (v j) (o.ring.negative (v i))

  -- j has at least the value of i
  pub record AtMost (v : ℕ → R) (i j : ℕ) : Type 0 where
    pub is : AtLeast (o.sign (way v i j))

  -- j has a greater value than i
  pub record Below (v : ℕ → R) (i j : ℕ) : Type 0 where
    pub is : o.sign (way v i j) ≡ Plus

  -- both have equal values, by their sign
  pub record Level (v : ℕ → R) (i j : ℕ) : Type 0 where
    pub is : o.sign (way v i j) ≡ Zero

  -- a sum in two ways
  pub two_steps : (a b c : R) → o.ring.plus (o.ring.plus b (o.ring.negative a)) (o.ring.plus c (o.ring.negative b)) ≡ o.ring.plus c (o.ring.negative a)
  two_steps a b c = by_identity o.ring (a ∷ b ∷ c ∷ []) _ _ (search quotes_in depth 20) (search quotes_in depth 20) refl

  turned_step : (a b : R) → o.ring.plus a (o.ring.negative b) ≡ o.ring.negative (o.ring.plus b (o.ring.negative a))
  turned_step a b = by_identity o.ring (a ∷ b ∷ []) _ _ (search quotes_in depth 20) (search quotes_in depth 20) refl

  pub turned : (v : ℕ → R) (i j : ℕ) → o.sign (way v j i) ≡ opposite_of (o.sign (way v i j))
  turned v i j = ap o.sign (turned_step (v i) (v j)) ∙ o.sign_negative (way v i j)

  pub level_own : (v : ℕ → R) (i : ℕ) → Level v i i
  level_own v i = record { is = zero_from_opposite (o.sign (way v i i)) (turned v i i) }

  pub level_most : {v : ℕ → R} {i j : ℕ} → Level v i j → AtMost v i j
  level_most {v} {i} {j} e = record { is = inr e.is }

  pub below_most : {v : ℕ → R} {i j : ℕ} → Below v i j → AtMost v i j
  below_most {v} {i} {j} e = record { is = inl e.is }

  pub own_most : (v : ℕ → R) (i : ℕ) → AtMost v i i
  own_most v i = level_most (level_own v i)

  pub level_turned : {v : ℕ → R} {i j : ℕ} → Level v i j → Level v j i
  level_turned {v} {i} {j} e = record { is = turned v i j ∙ ap opposite_of e.is }

  -- ---- one after the other
  pub most_most : {v : ℕ → R} {i j k : ℕ} → AtMost v i j → AtMost v j k → AtMost v i k
  most_most {v} {i} {j} {k} p q = record { is = subst (λ (a : R). AtLeast (o.sign a)) (two_steps (v i) (v j) (v k)) (nonnegative_sum o {a = way v i j} {b = way v j k} p.is q.is) }

  pub below_then : {v : ℕ → R} {i j k : ℕ} → Below v i j → AtMost v j k → Below v i k
  below_then {v} {i} {j} {k} p q = record { is = subst (λ (a : R). o.sign a ≡ Plus) (two_steps (v i) (v j) (v k)) (positive_sum o {a = way v i j} {b = way v j k} p.is q.is) }

  pub then_below : {v : ℕ → R} {i j k : ℕ} → AtMost v i j → Below v j k → Below v i k
  then_below {v} {i} {j} {k} p q = record {
    is = subst (λ (a : R). o.sign a ≡ Plus) (o.ring.plus_comm (way v j k) (way v i j) ∙ two_steps (v i) (v j) (v k)) (positive_sum o {a = way v j k} {b = way v i j} q.is p.is);
  }

  -- ---- level points
  pub level_behind : {v : ℕ → R} {i j : ℕ} (k : ℕ) → Level v i j → o.sign (way v k i) ≡ o.sign (way v k j)
  level_behind {v} {i} {j} k e = at (o.sign (way v k i)) (subst (λ (a : R). SumMayBe (o.sign (way v k i)) (o.sign (way v i j)) (o.sign a)) (two_steps (v k) (v i) (v j)) (sum_may_be o (way v k i) (way v i j)))
    where
      at : (t : Sign) → SumMayBe t (o.sign (way v i j)) (o.sign (way v k j)) → t ≡ o.sign (way v k j)
      at t sum = by_sign t (subst (λ u. SumMayBe t u (o.sign (way v k j))) e.is sum)
        where
          by_sign : (t : Sign) → SumMayBe t Zero (o.sign (way v k j)) → t ≡ o.sign (way v k j)
          by_sign Minus f = sym f
          by_sign Zero f = sym f
          by_sign Plus f = sym f

  pub level_before : {v : ℕ → R} {i j : ℕ} (k : ℕ) → Level v i j → o.sign (way v i k) ≡ o.sign (way v j k)
  level_before {v} {i} {j} k e = turned v k i ∙ ap opposite_of (level_behind k e) ∙ sym (turned v k j)

  -- ---- cases
  pub not_both : {v : ℕ → R} {i j : ℕ} → Below v i j → AtMost v j i → ⊥
  not_both {v} {i} {j} p q = at q.is (sym (turned v i j ∙ ap opposite_of p.is))
    where
      at : AtLeast (o.sign (way v j i)) → Minus ≡ o.sign (way v j i) → ⊥
      at (inl e) f = code (f ∙ e)
      at (inr e) f = code (f ∙ e)

  pub most_or_below : (v : ℕ → R) (i j : ℕ) → AtMost v i j ⊎ Below v j i
  most_or_below v i j = at (o.sign (way v i j)) refl
    where
      at : (t : Sign) → o.sign (way v i j) ≡ t → AtMost v i j ⊎ Below v j i
      at Minus e = inr (record { is = turned v i j ∙ ap opposite_of e })
      at Zero e = inl (record { is = inr e })
      at Plus e = inl (record { is = inl e })

  pub below_or_level : {v : ℕ → R} {i j : ℕ} → AtMost v i j → Below v i j ⊎ Level v i j
  below_or_level {v} {i} {j} p = at p.is
    where
      at : AtLeast (o.sign (way v i j)) → Below v i j ⊎ Level v i j
      at (inl e) = inl (record { is = e })
      at (inr e) = inr (record { is = e })

  pub both_most : {v : ℕ → R} {i j : ℕ} → AtMost v i j → AtMost v j i → Level v i j
  both_most {v} {i} {j} p q = at (below_or_level p)
    where
      at : Below v i j ⊎ Level v i j → Level v i j
      at (inl b) = absurd (not_both b q)
      at (inr l) = l
