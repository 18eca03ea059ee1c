-- A multiple leaves no remainder.
use Rattle.std.proofs.Common.{◌≡◌, refl, sym, ap, ◌∙◌, subst, arith, [], ◌∷◌, ℕ, zero, suc, ◌*◌, ◌<◌}
use Rattle.std.specs.Prelude.{ℤ, pos, ◌+ℤ◌, ◌-ℤ◌, ◌*ℤ◌, unsigned_abs}
use Rattle.std.proofs.lemmas.Int.{unsigned_abs-mul}
use Rattle.kin_algebra.proofs.Magnitudes.{zero_from_size}
use Rattle.kin_algebra.proofs.Ring.{by_ring, quotes}
use Rattle.kin_num.proofs.LowerFractions.{same_denominator}

below_one : (m n : ℕ) → m * n < n → m ≡ 0
below_one zero n h = refl
below_one (suc m) n h = absurd (omega (arith, h))

left_over : (k q d r : ℤ) → (q *ℤ d +ℤ r) -ℤ q *ℤ d ≡ r
left_over k q d r = by_ring (k ∷ q ∷ d ∷ r ∷ []) _ _ (search quotes depth 20) (search quotes depth 20) refl

pub remainder_of_multiple : (x k d q r : ℤ) → x ≡ k *ℤ d → q *ℤ d +ℤ r ≡ x → unsigned_abs r < unsigned_abs d → r ≡ pos 0
remainder_of_multiple x k d q r e f h =
    let is : r ≡ (k -ℤ q) *ℤ d = sym (left_over k q d r) ∙ ap (λ z. z -ℤ q *ℤ d) (f ∙ e) ∙ same_denominator k q d in
    let size : unsigned_abs r ≡ unsigned_abs (k -ℤ q) * unsigned_abs d = ap unsigned_abs is ∙ unsigned_abs-mul (k -ℤ q) d in
    let none : unsigned_abs (k -ℤ q) ≡ 0 = below_one (unsigned_abs (k -ℤ q)) (unsigned_abs d) (subst (λ n. n < unsigned_abs d) size h) in
    zero_from_size r (size ∙ none_of (unsigned_abs (k -ℤ q)) (unsigned_abs d) none)
  where
    none_of : (m n : ℕ) → m ≡ 0 → m * n ≡ 0
    none_of m n e = grind (arith, e)
