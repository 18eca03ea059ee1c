-- Roots that are fractions: their lowest terms are within the bounds of an instant.
use Rattle.std.proofs.Common.{◌≡◌, ◌≢◌, ◌⊎◌, inl, inr, ℕ, zero, suc, ◌+◌, ◌*◌, ◌<◌, ◌≤◌, ◌^◌, ℤ, pos, ◌+ℤ◌, ◌-ℤ◌, ◌*ℤ◌, unsigned_abs, arith, refl, ap, sym, ◌∙◌, mul-le-mul, [], ◌∷◌}
use Rattle.std.specs.Prelude.{◌<ℤ◌}
use Rattle.std.specs.Int.{◌∣◌}
use Rattle.std.proofs.lemmas.Int.{ints, unsigned_abs-mul}
use Rattle.std.proofs.lemmas.Bool.{cases_lt}
use Rattle.std.proofs.lemmas.Nat.Gcd.{IsGcd-swap, le_of_dvd}
use lib.IntN.{neg_ℤ}
use Rattle.kin_algebra.proofs.Magnitudes.{size-some, zero_or_not, zero_from_size}
use Rattle.kin_algebra.proofs.Integers.{integers}
use Rattle.kin_algebra.proofs.Ring.{by_ring, quotes}
use Rattle.kin_num.specs.Quadratic.{IsSmall}
use Rattle.kin_num.specs.Canonical.{IsLowest, IsSmallRatio, discriminant}
use Rattle.kin_num.proofs.Divisors.{cancel_factor, divides_across}
use Rattle.kin_instant.specs.Roots.{quadratic, IsSmallInLowestTerms}

-- lowest terms are no greater
module _ (n d m e : ℤ) (up : pos 0 <ℤ d) (i : IsLowest m e) (same : m *ℤ d ≡ n *ℤ e) where
  pub divisor_no_greater : unsigned_abs e ≤ unsigned_abs d
  divisor_no_greater = le_of_dvd (size-some d up) (divides_across n d m e i.lowest (sym same))

  pub numerator_no_greater : unsigned_abs m ≤ unsigned_abs n
  numerator_no_greater =
      at (unsigned_abs m) (unsigned_abs d) (unsigned_abs n) (unsigned_abs e)
      (sym (unsigned_abs-mul m d) ∙ ap unsigned_abs same ∙ unsigned_abs-mul n e) divisor_no_greater (size-some d up)
    where
      own : (x : ℕ) → x ≤ x
      own x = omega arith

      at : (m d n e : ℕ) → m * d ≡ n * e → e ≤ d → 0 < d → m ≤ n
      at m d n e s h some = by_order (cases_lt n m)
        where
          by_order : (n < m) ⊎ (m ≤ n) → m ≤ n
          by_order (inl l) = let k : (n + 1) * d ≤ m * d = mul-le-mul (omega (arith, l)) (own d) in let j : n * e ≤ n * d = mul-le-mul (own n) h in absurd (omega (arith, s, k, j, some))
          by_order (inr l) = l

-- ---- lines
pub line_small : (n d : ℤ) → pos 0 <ℤ d → unsigned_abs n ≤ 2 ^ 31 → unsigned_abs d ≤ 2 ^ 31 → IsSmallInLowestTerms n d
line_small n d up n_most d_most = λ m e i same. record {
  n_small = most (unsigned_abs m) (unsigned_abs n) (numerator_no_greater n d m e up i same) n_most;
  d_small = most (unsigned_abs e) (unsigned_abs d) (divisor_no_greater n d m e up i same) d_most;
}
  where
    most : (x y : ℕ) → x ≤ y → y ≤ 2 ^ 31 → x ≤ 2 ^ 31
    most x y h k = omega (arith, h, k)

-- ---- quadratics: p and q are twice a times the two roots, of which n/d is the first
module _ (a b c p q : ℤ) (up : pos 0 <ℤ a) (small : IsSmall (quadratic a b c)) (sum : p +ℤ q ≡ pos 2 *ℤ neg_ℤ b) (product : p *ℤ q ≡ pos 4 *ℤ a *ℤ c)
    (n d : ℤ) (i : IsLowest n d) (same : n *ℤ (pos 2 *ℤ a) ≡ p *ℤ d) where
  doubled : pos 0 <ℤ (pos 2 *ℤ a)
  doubled = omega (arith, ints)

  d_most : unsigned_abs d ≤ 2 ^ 31
  d_most = omega (arith, divisor_no_greater p (pos 2 *ℤ a) n d doubled i same, unsigned_abs-mul (pos 2) a, small.a_small)

  -- the other root times the numerator is twice c times the denominator
  across : q *ℤ n ≡ d *ℤ (pos 2 *ℤ c)
  across =
      cancel_factor (pos 2 *ℤ a) (q *ℤ n) (d *ℤ (pos 2 *ℤ c)) doubled
      (by_ring (a ∷ q ∷ n ∷ []) ((pos 2 *ℤ a) *ℤ (q *ℤ n)) (q *ℤ (n *ℤ (pos 2 *ℤ a))) (search quotes depth 16) (search quotes depth 16) refl
      ∙ ap (λ (z : ℤ). q *ℤ z) same
      ∙ by_ring (p ∷ q ∷ d ∷ []) (q *ℤ (p *ℤ d)) ((p *ℤ q) *ℤ d) (search quotes depth 16) (search quotes depth 16) refl
      ∙ ap (λ (z : ℤ). z *ℤ d) product
      ∙ by_ring (a ∷ c ∷ d ∷ []) ((pos 4 *ℤ a *ℤ c) *ℤ d) ((pos 2 *ℤ a) *ℤ (d *ℤ (pos 2 *ℤ c))) (search quotes depth 20) (search quotes depth 20) refl)

  -- so the numerator divides twice c
  divides_constant : unsigned_abs n ∣ unsigned_abs (pos 2 *ℤ c)
  divides_constant = divides_across q (pos 2 *ℤ c) d n (IsGcd-swap (unsigned_abs n) (unsigned_abs d) 1 i.lowest) across

  with_constant : c ≢ pos 0 → unsigned_abs n ≤ 2 ^ 31
  with_constant some = at c some small.c_small divides_constant
    where
      at : (c : ℤ) → c ≢ pos 0 → unsigned_abs c ≤ 2 ^ 29 → unsigned_abs n ∣ unsigned_abs (pos 2 *ℤ c) → unsigned_abs n ≤ 2 ^ 31
      at c some h k = let l : unsigned_abs n ≤ unsigned_abs (pos 2 *ℤ c) = le_of_dvd (omega (arith, ints, some)) k in omega (arith, l, unsigned_abs-mul (pos 2) c, h)

  -- without c one root is 0, and the other is a line's
  nothing : c ≡ pos 0 → q *ℤ n ≡ pos 0
  nothing e = across ∙ ap (λ (z : ℤ). d *ℤ (pos 2 *ℤ z)) e ∙ by_ring (d ∷ []) (d *ℤ (pos 2 *ℤ pos 0)) (pos 0) (search quotes depth 16) (search quotes depth 16) refl

  without_constant : c ≡ pos 0 → unsigned_abs n ≤ 2 ^ 31
  without_constant e = at (zero_or_not q)
    where
      none : (x y : ℕ) → x * y ≡ 0 → (x ≡ 0 → ⊥) → y ≡ 0
      none zero y e k = absurd (k refl)
      none (suc x) zero e k = refl
      none (suc x) (suc y) e k = absurd (omega (arith, e))

      line : q ≡ pos 0 → n *ℤ a ≡ neg_ℤ b *ℤ d
      line f =
          cancel_factor (pos 2) (n *ℤ a) (neg_ℤ b *ℤ d) (omega (arith, ints))
          (by_ring (n ∷ a ∷ []) (pos 2 *ℤ (n *ℤ a)) (n *ℤ (pos 2 *ℤ a)) (search quotes depth 16) (search quotes depth 16) refl
          ∙ same ∙ ap (λ (z : ℤ). z *ℤ d) (alone p q (pos 2 *ℤ neg_ℤ b) sum f)
          ∙ by_ring (b ∷ d ∷ []) ((pos 2 *ℤ neg_ℤ b) *ℤ d) (pos 2 *ℤ (neg_ℤ b *ℤ d)) (search quotes depth 16) (search quotes depth 16) refl)
        where
          alone : (p q s : ℤ) → p +ℤ q ≡ s → q ≡ pos 0 → p ≡ s
          alone p q s e f = omega (arith, ints, e, f)

      at : (q ≡ pos 0) ⊎ (q ≢ pos 0) → unsigned_abs n ≤ 2 ^ 31
      at (inl f) = let h = numerator_no_greater (neg_ℤ b) a n d up i (line f) in opposite b h small.b_small
        where
          opposite : (b : ℤ) → unsigned_abs n ≤ unsigned_abs (neg_ℤ b) → unsigned_abs b ≤ 2 ^ 31 → unsigned_abs n ≤ 2 ^ 31
          opposite b h k = omega (arith, ints, h, k)
      at (inr some) = let z = none (unsigned_abs q) (unsigned_abs n) (sym (unsigned_abs-mul q n) ∙ ap unsigned_abs (nothing e)) (λ h. some (zero_from_size q h)) in omega (arith, z)

  pub root_small : IsSmallRatio n d
  root_small = record { n_small = at (zero_or_not c); d_small = d_most }
    where
      at : (c ≡ pos 0) ⊎ (c ≢ pos 0) → unsigned_abs n ≤ 2 ^ 31
      at (inl e) = without_constant e
      at (inr some) = with_constant some

-- by the square root of the discriminant
module _ (a b c root : ℤ) (up : pos 0 <ℤ a) (small : IsSmall (quadratic a b c)) (square : root *ℤ root ≡ discriminant a b c) where
  product : (root -ℤ b) *ℤ (neg_ℤ root -ℤ b) ≡ pos 4 *ℤ a *ℤ c
  product =
      by_ring (root ∷ b ∷ []) ((root -ℤ b) *ℤ (neg_ℤ root -ℤ b)) (b *ℤ b -ℤ root *ℤ root) (search quotes depth 16) (search quotes depth 16) refl
      ∙ ap (λ (z : ℤ). b *ℤ b -ℤ z) square
      ∙ by_ring (a ∷ b ∷ c ∷ []) (b *ℤ b -ℤ discriminant a b c) (pos 4 *ℤ a *ℤ c) (search quotes depth 20) (search quotes depth 20) refl

  sum : (root b : ℤ) → (root -ℤ b) +ℤ (neg_ℤ root -ℤ b) ≡ pos 2 *ℤ neg_ℤ b
  sum root b = omega (arith, ints)

  turned_sum : (root b : ℤ) → (neg_ℤ root -ℤ b) +ℤ (root -ℤ b) ≡ pos 2 *ℤ neg_ℤ b
  turned_sum root b = omega (arith, ints)

  pub upper_small : IsSmallInLowestTerms (root -ℤ b) (pos 2 *ℤ a)
  upper_small = λ n d i same. root_small a b c (root -ℤ b) (neg_ℤ root -ℤ b) up small (sum root b) product n d i same

  pub lower_small : IsSmallInLowestTerms (neg_ℤ root -ℤ b) (pos 2 *ℤ a)
  lower_small = λ n d i same. root_small a b c (neg_ℤ root -ℤ b) (root -ℤ b) up small (turned_sum root b) (integers.times_comm (neg_ℤ root -ℤ b) (root -ℤ b) ∙ product) n d i same
