use Rattle.std.proofs.Common.{◌≡◌, ℕ, zero, suc, ◌+◌, ◌-◌, ◌*◌, ◌/◌, ◌%◌, ◌<◌, ◌≤◌, ◌^◌, arith, sym, subst, mul-le-mul}
use Rattle.kin_instant.proofs.LongerRoots.{wide_root, few, lessened}
use Rattle.kin_instant.proofs.wide_root.longer_root.Goals as goal

rest : (x r : ℕ) → r * r ≤ x → x ≡ r * r + (x - r * r)
rest x r h = at x (r * r) h
  where
    at : (x s : ℕ) → s ≤ x → x ≡ s + (x - s)
    at x s h = omega (arith, h)

short : (x r : ℕ) → r * r ≤ x → x < (r + 1) * (r + 1) → x - r * r ≤ 2 * r
short x r h k = omega (arith, h, k)

divided : (n r : ℕ) → n ≡ n / r * r + n % r
divided n r = omega arith

pub overflow_mul-from : goal.overflow_mul-from
overflow_mul-from c =
    let r = c.isqrt_of_wide-root.result in
    let e = c.args.x - r * r in
    let at_most = c.isqrt_of_wide-root.ensures.at_most in
    let greatest = c.isqrt_of_wide-root.ensures.greatest in
    let q = e * 2147483648 / r in
    let bound : q ≤ 2 ^ 32 = few c.args.x r q (e * 2147483648 % r) e (rest c.args.x r at_most) (divided (e * 2147483648) r) (wide_root c.args.x r c.requires.wide greatest) (short c.args.x r at_most greatest) in
    record { fits = small c.from.result c.from-2.result (subst (λ (z : ℕ). z ≤ 2 ^ 32) (sym c.from.ensures) bound) (subst (λ (z : ℕ). z ≤ 2 ^ 32) (sym c.from-2.ensures) bound) }
  where
    small : (a b : ℕ) → a ≤ 2 ^ 32 → b ≤ 2 ^ 32 → a * b < 2 ^ 128
    small a b h k = let m : a * b ≤ 2 ^ 32 * 2 ^ 32 = mul-le-mul h k in omega (arith, m)

pub returns-then-from : goal.returns-then-from
returns-then-from c =
    let r = c.isqrt_of_wide-root.result in
    let e = c.args.x - r * r in
    let at_most = c.isqrt_of_wide-root.ensures.at_most in
    let greatest = c.isqrt_of_wide-root.ensures.greatest in
    let q = e * 2147483648 / r in
    let over : e * 2147483648 % r * 2 ^ 33 < q * q = read c.from.result c.from-2.result c.from-3.result q q (e * 2147483648 % r) c.from.ensures c.from-2.ensures c.from-3.ensures c.if-from.true in
    lessened c.args.x r q (e * 2147483648 % r) e (rest c.args.x r at_most) (divided (e * 2147483648) r) (wide_root c.args.x r c.requires.wide greatest) (short c.args.x r at_most greatest) (q - 1) (more q (e * 2147483648 % r * 2 ^ 33) over) over
  where
    read : (a b d q q' u : ℕ) → a ≡ q → b ≡ q' → d ≡ u → d * 2 ^ 33 < a * b → u * 2 ^ 33 < q * q'
    read a b d q q' u e f g h = subst (λ (z : ℕ). z * 2 ^ 33 < q * q') g (subst (λ (z : ℕ). d * 2 ^ 33 < z * q') e (subst (λ (z : ℕ). d * 2 ^ 33 < a * z) f h))

    more : (q n : ℕ) → n < q * q → q ≡ q - 1 + 1
    more zero n h = absurd (omega (arith, h))
    more (suc q) n h = omega arith
