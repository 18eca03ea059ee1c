-- The numbers u + v * sqrt(d) as a commutative ring and as an ordered one.
use Rattle.std.proofs.Common.{◌≡◌, ◌⊎◌, inl, inr, zero, suc, ℕ, [], ◌∷◌, ℤ, pos, negsuc, ◌+ℤ◌, ◌*ℤ◌, neg_ℤ, sym, refl, ap, ap₂, ◌∙◌, subst}
use Rattle.kin_algebra.specs.declared.sign.Sign.{Sign}
use Rattle.kin_algebra.specs.declared.sign.Sign.TheVariants.{Zero, Plus}
use Rattle.kin_algebra.specs.Signs.{sign_of, opposite_of, product_of, pair_sign_of}
use Rattle.kin_algebra.proofs.Rings.{CommutativeRing}
use Rattle.kin_algebra.proofs.Ring.{by_ring, quotes}
use Rattle.kin_algebra.proofs.Signs.{code}
use Rattle.kin_algebra.proofs.OrderedRings.{OrderedRing}
use Rattle.kin_algebra.proofs.IntegerSigns.{sign_of-plus, sign_of-times, sign_of-negative}
use Rattle.kin_algebra.proofs.Radicals.{Radical, pair_sign-whole}
use Rattle.kin_algebra.proofs.PairProducts.{pair_sign-times, pair_sign-negative}
use Rattle.kin_algebra.proofs.PairSums.{pair_sign-plus}

-- units + roots * sqrt(d)
pub record Pair : Type 0 where
  pub units : ℤ
  pub roots : ℤ

abbrev pub pair : ℤ → ℤ → Pair
pair u v = record { units = u; roots = v }

abbrev pub pair_plus : Pair → Pair → Pair
pair_plus a b = pair (a.units +ℤ b.units) (a.roots +ℤ b.roots)

abbrev pub pair_times : ℤ → Pair → Pair → Pair
pair_times d a b = pair (a.units *ℤ b.units +ℤ d *ℤ (a.roots *ℤ b.roots)) (a.units *ℤ b.roots +ℤ a.roots *ℤ b.units)

abbrev pub pair_negative : Pair → Pair
pair_negative a = pair (neg_ℤ a.units) (neg_ℤ a.roots)

module _ (d : ℤ) where
  pub pair_plus-assoc : (a b c : Pair) → pair_plus (pair_plus a b) c ≡ pair_plus a (pair_plus b c)
  pair_plus-assoc a b c =
      ap₂ pair
      (by_ring (a.units ∷ b.units ∷ c.units ∷ []) _ _ (search quotes depth 20) (search quotes depth 20) refl)
      (by_ring (a.roots ∷ b.roots ∷ c.roots ∷ []) _ _ (search quotes depth 20) (search quotes depth 20) refl)

  pub pair_plus-comm : (a b : Pair) → pair_plus a b ≡ pair_plus b a
  pair_plus-comm a b =
      ap₂ pair
      (by_ring (a.units ∷ b.units ∷ []) _ _ (search quotes depth 20) (search quotes depth 20) refl)
      (by_ring (a.roots ∷ b.roots ∷ []) _ _ (search quotes depth 20) (search quotes depth 20) refl)

  pub pair_plus-zero : (a : Pair) → pair_plus a (pair (pos 0) (pos 0)) ≡ a
  pair_plus-zero a =
      ap₂ pair
      (by_ring (a.units ∷ []) _ _ (search quotes depth 20) (search quotes depth 20) refl)
      (by_ring (a.roots ∷ []) _ _ (search quotes depth 20) (search quotes depth 20) refl)

  pub pair_plus-negative : (a : Pair) → pair_plus a (pair_negative a) ≡ pair (pos 0) (pos 0)
  pair_plus-negative a =
      ap₂ pair
      (by_ring (a.units ∷ []) _ _ (search quotes depth 20) (search quotes depth 20) refl)
      (by_ring (a.roots ∷ []) _ _ (search quotes depth 20) (search quotes depth 20) refl)

  pub pair_times-assoc : (a b c : Pair) → pair_times d (pair_times d a b) c ≡ pair_times d a (pair_times d b c)
  pair_times-assoc a b c =
      ap₂ pair
      (by_ring (d ∷ a.units ∷ a.roots ∷ b.units ∷ b.roots ∷ c.units ∷ c.roots ∷ []) _ _ (search quotes depth 20) (search quotes depth 20) refl)
      (by_ring (d ∷ a.units ∷ a.roots ∷ b.units ∷ b.roots ∷ c.units ∷ c.roots ∷ []) _ _ (search quotes depth 20) (search quotes depth 20) refl)

  pub pair_times-comm : (a b : Pair) → pair_times d a b ≡ pair_times d b a
  pair_times-comm a b =
      ap₂ pair
      (by_ring (d ∷ a.units ∷ a.roots ∷ b.units ∷ b.roots ∷ []) _ _ (search quotes depth 20) (search quotes depth 20) refl)
      (by_ring (d ∷ a.units ∷ a.roots ∷ b.units ∷ b.roots ∷ []) _ _ (search quotes depth 20) (search quotes depth 20) refl)

  pub pair_times-one : (a : Pair) → pair_times d a (pair (pos 1) (pos 0)) ≡ a
  pair_times-one a =
      ap₂ pair
      (by_ring (d ∷ a.units ∷ a.roots ∷ []) _ _ (search quotes depth 20) (search quotes depth 20) refl)
      (by_ring (d ∷ a.units ∷ a.roots ∷ []) _ _ (search quotes depth 20) (search quotes depth 20) refl)

  pub pair_times-plus : (a b c : Pair) → pair_times d a (pair_plus b c) ≡ pair_plus (pair_times d a b) (pair_times d a c)
  pair_times-plus a b c =
      ap₂ pair
      (by_ring (d ∷ a.units ∷ a.roots ∷ b.units ∷ b.roots ∷ c.units ∷ c.roots ∷ []) _ _ (search quotes depth 20) (search quotes depth 20) refl)
      (by_ring (d ∷ a.units ∷ a.roots ∷ b.units ∷ b.roots ∷ c.units ∷ c.roots ∷ []) _ _ (search quotes depth 20) (search quotes depth 20) refl)

  pub whole-times : (m n : ℤ) → pair (m *ℤ n) (pos 0) ≡ pair_times d (pair m (pos 0)) (pair n (pos 0))
  whole-times m n =
      ap₂ pair
      (by_ring (d ∷ m ∷ n ∷ []) _ _ (search quotes depth 20) (search quotes depth 20) refl)
      (by_ring (m ∷ n ∷ []) _ _ (search quotes depth 20) (search quotes depth 20) refl)

  abbrev pub pairs : CommutativeRing Pair
  pairs = record {
    whole = λ n. pair n (pos 0);
    plus = pair_plus;
    times = pair_times d;
    negative = pair_negative;
    plus_assoc = pair_plus-assoc;
    plus_comm = pair_plus-comm;
    plus_zero = pair_plus-zero;
    plus_negative = pair_plus-negative;
    times_assoc = pair_times-assoc;
    times_comm = pair_times-comm;
    times_one = pair_times-one;
    times_plus = pair_times-plus;
    whole_plus = λ m n. refl;
    whole_times = whole-times;
  }

-- ---- order
-- the sign of units + roots * sqrt(d)
abbrev pub sign_over : ℤ → Pair → Sign
sign_over d a = pair_sign_of a.units a.roots d

-- d is 0, or positive and no square
abbrev pub Sound : ℤ → Type 0
Sound d = (d ≡ pos 0) ⊎ Radical d

-- a law for each sound d, from the two cases
pub by_cases : (P : ℤ → Type 0) → P (pos 0) → ((n : ℕ) → Radical (pos (suc n)) → P (pos (suc n))) → (d : ℤ) → Sound d → P d
by_cases P a b d (inl e) = subst P (sym e) a
by_cases P a b (pos zero) (inr r) = a
by_cases P a b (pos (suc n)) (inr r) = b n r
by_cases P a b (negsuc n) (inr r) = absurd (code r.positive)

without_roots : (u v x y : ℤ) → u *ℤ x +ℤ pos 0 *ℤ (v *ℤ y) ≡ u *ℤ x
without_roots u v x y = by_ring (u ∷ v ∷ x ∷ y ∷ []) _ _ (search quotes depth 20) (search quotes depth 20) refl

module _ (d : ℤ) (s : Sound d) where
  pub sign_over-one : sign_over d (pair (pos 1) (pos 0)) ≡ Plus
  sign_over-one = by_cases (λ d. sign_over d (pair (pos 1) (pos 0)) ≡ Plus) refl (λ n r. pair_sign-whole (pos (suc n)) r (pos 1)) d s

  pub sign_over-whole : (k : ℤ) → sign_over d (pair k (pos 0)) ≡ sign_of k
  sign_over-whole k = by_cases (λ d. sign_over d (pair k (pos 0)) ≡ sign_of k) refl (λ n r. pair_sign-whole (pos (suc n)) r k) d s

  pub sign_over-negative : (a : Pair) → sign_over d (pair_negative a) ≡ opposite_of (sign_over d a)
  sign_over-negative a = by_cases (λ d. sign_over d (pair_negative a) ≡ opposite_of (sign_over d a)) (sign_of-negative a.units) (λ n r. pair_sign-negative (pos (suc n)) r a.units a.roots) d s

  pub sign_over-times : (a b : Pair) → sign_over d (pair_times d a b) ≡ product_of (sign_over d a) (sign_over d b)
  sign_over-times a b =
      by_cases (λ d. sign_over d (pair_times d a b) ≡ product_of (sign_over d a) (sign_over d b))
      (ap sign_of (without_roots a.units a.roots b.units b.roots) ∙ sign_of-times a.units b.units)
      (λ n r. pair_sign-times (pos (suc n)) r a.units a.roots b.units b.roots) d s

  pub sign_over-plus : (t : Sign) (a b : Pair) → sign_over d a ≡ t → (sign_over d b ≡ t) ⊎ (sign_over d b ≡ Zero) → sign_over d (pair_plus a b) ≡ t
  sign_over-plus t a b =
      by_cases (λ d. sign_over d a ≡ t → (sign_over d b ≡ t) ⊎ (sign_over d b ≡ Zero) → sign_over d (pair_plus a b) ≡ t)
      (sign_of-plus t a.units b.units)
      (λ n r. pair_sign-plus (pos (suc n)) r a.units a.roots b.units b.roots t) d s

  abbrev pub ordered : OrderedRing Pair
  ordered = record {
    ring = pairs d;
    sign = sign_over d;
    sign_one = sign_over-one;
    sign_negative = sign_over-negative;
    sign_times = sign_over-times;
    sign_plus = sign_over-plus;
  }
