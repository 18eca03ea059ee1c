-- The whole root of 2^64 times a number, from that of the number (Zimmermann's Karatsuba square root).
use Rattle.std.proofs.Common.{◌≡◌, ℕ, ◌+◌, ◌*◌, ◌<◌, ◌≤◌, ◌^◌, arith, subst, mul-le-mul, not-le_of_lt}
use Rattle.kin_algebra.proofs.Descent.{root_below}
use Rattle.kin_num.specs.Roots.{IsWholeRoot}

-- the root of a wide number is wide
pub wide_root : (x r : ℕ) → 2 ^ 62 ≤ x → x < (r + 1) * (r + 1) → 2 ^ 31 ≤ r
wide_root x r h k = lower r (λ l. not-le_of_lt k (more (mul-le-mul l l)))
  where
    more : (r + 1) * (r + 1) ≤ 2 ^ 31 * 2 ^ 31 → (r + 1) * (r + 1) ≤ x
    more l = omega (arith, l, h)

    lower : (r : ℕ) → (r + 1 ≤ 2 ^ 31 → ⊥) → 2 ^ 31 ≤ r
    lower r n = grind (arith, n)

-- the square of the two halves r and q, where the rest e is divided by r
module _ (x r q u e : ℕ) (rest : x ≡ r * r + e) (divided : e * 2 ^ 31 ≡ q * r + u) where
  square : (r * 2 ^ 32 + q) * (r * 2 ^ 32 + q) + u * 2 ^ 33 ≡ x * 2 ^ 64 + q * q
  square = by_rest (r * q) (q * r) (turned r q)
    where
      turned : (r q : ℕ) → r * q ≡ q * r
      turned r q = omega arith

      by_rest : (p p' : ℕ) → p ≡ p' → (r * 2 ^ 32 + q) * (r * 2 ^ 32 + q) + u * 2 ^ 33 ≡ x * 2 ^ 64 + q * q
      by_rest p p' f = omega (arith, rest, divided)

  -- q has no more digits than r
  pub few : 2 ^ 31 ≤ r → e ≤ 2 * r → q ≤ 2 ^ 32
  few wide short = least (λ l. not-le_of_lt (over l) divisor)
    where
      divisor : q * r ≤ 2 ^ 32 * r
      divisor = omega (arith, divided, short)

      over : 2 ^ 32 + 1 ≤ q → 2 ^ 32 * r < q * r
      over l = let m : (2 ^ 32 + 1) * r ≤ q * r = mul-le-mul l (let k : r ≤ r = omega arith in k) in omega (arith, m, wide)

      least : (2 ^ 32 + 1 ≤ q → ⊥) → q ≤ 2 ^ 32
      least n = grind (arith, n)

  -- where it is greater, they are one too many
  pub lessened : 2 ^ 31 ≤ r → e ≤ 2 * r → (p : ℕ) → q ≡ p + 1 → u * 2 ^ 33 < q * q → IsWholeRoot (x * 2 ^ 64) (r * 2 ^ 32 + p)
  lessened wide short p f h =
      let as_next : r * 2 ^ 32 + q ≡ (r * 2 ^ 32 + p) + 1 = omega (arith, f) in
      let same : ((r * 2 ^ 32 + p) + 1) * ((r * 2 ^ 32 + p) + 1) + u * 2 ^ 33 ≡ x * 2 ^ 64 + q * q = subst (λ (s : ℕ). s * s + u * 2 ^ 33 ≡ x * 2 ^ 64 + q * q) as_next square in
      let bound : q ≤ 2 ^ 32 = few wide short in
      let small : q * q ≤ 2 ^ 32 * 2 ^ 32 = mul-le-mul bound bound in
      record {
        at_most = most (r * 2 ^ 32 + p) ((r * 2 ^ 32 + p) * (r * 2 ^ 32 + p)) (((r * 2 ^ 32 + p) + 1) * ((r * 2 ^ 32 + p) + 1)) (q * q) (x * 2 ^ 64) same (following (r * 2 ^ 32 + p)) (let m : r * 2 ^ 32 ≤ r * 2 ^ 32 + p = omega arith in m) small;
        greatest = next (((r * 2 ^ 32 + p) + 1) * ((r * 2 ^ 32 + p) + 1)) (q * q) (x * 2 ^ 64) same h;
      }
    where
      following : (s : ℕ) → (s + 1) * (s + 1) ≡ s * s + 2 * s + 1
      following s = omega arith

      most : (s t t' p n : ℕ) → t' + u * 2 ^ 33 ≡ n + p → t' ≡ t + 2 * s + 1 → r * 2 ^ 32 ≤ s → p ≤ 2 ^ 32 * 2 ^ 32 → t ≤ n
      most s t t' p n e f h k = omega (arith, e, f, h, k, wide)

      next : (t p n : ℕ) → t + u * 2 ^ 33 ≡ n + p → u * 2 ^ 33 < p → n < t
      next t p n e h = omega (arith, e, h)

-- the root of a longer number fits
pub fits : (x r : ℕ) → x < 2 ^ 64 → r * r ≤ x * 2 ^ 64 → r < 2 ^ 64
fits x r h k = root_below r (2 ^ 64) (omega (arith, h, k))
