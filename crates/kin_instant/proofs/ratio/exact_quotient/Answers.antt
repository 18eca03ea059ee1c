use Rattle.std.proofs.Common.{◌≡◌, ℕ, ◌*◌, ◌/◌, ◌%◌, ◌<◌, ℤ, ◌*ℤ◌, unsigned_abs, w64, arith, ap, sym, ◌∙◌}
use Rattle.std.specs.Int.RustNames.{int_div, int_rem}
use Rattle.std.proofs.lemmas.Int.{quot-rem, quot_is, quot_fits, rem_below}
use Rattle.std.proofs.lemmas.Nat.Gcd.{mod-eq-zero_of_dvd}
use Rattle.kin_algebra.proofs.Magnitudes.{size-some}
use Rattle.kin_instant.proofs.Lowest.{no_remainder}
use Rattle.kin_instant.proofs.ratio.exact_quotient.Goals as goal

multiple : (n m : ℕ) → 0 < m → n % m ≡ 0 → n ≡ m * (n / m)
multiple n m h e = omega (arith, e)

pub returns-else-divisor-eq1 : goal.returns-else-divisor-eq1
returns-else-divisor-eq1 c =
    let x = c.args.x in
    let g = c.args.divisor in
    let h = c.requires.positive in
    no_remainder x g (int_div x g) (int_rem x g) (unsigned_abs x / unsigned_abs g) h (multiple (unsigned_abs x) (unsigned_abs g) (size-some g h) (mod-eq-zero_of_dvd (unsigned_abs g) c.requires.divides)) c.requires.divides (quot-rem x g) (rem_below x g (size-some g h))
    ∙ ap (λ (z : ℤ). z *ℤ g) (sym (quot_is w64 x g c.ranges.x c.ranges.divisor (quot_fits w64 x g c.ranges.x h)))
