use Rattle.std.proofs.Common.{◌≡◌, ℕ, ◌<◌, ◌^◌, ℤ, pos, ◌*ℤ◌, unsigned_abs, w64, to_z, of_z, ap, sym, ◌∙◌, subst}
use Rattle.std.specs.Prelude.{◌<ℤ◌}
use Rattle.std.specs.Int.{IsGcd, ◌∣◌}
use Rattle.std.proofs.lemmas.Int.{to_z_pos, fits_signed_from_abs}
use Rattle.std.proofs.lemmas.Nat.Gcd.{le_of_dvd}
use Rattle.std.proofs.Math.Nat.{pos_of_dvd_of_pos}
use Rattle.kin_algebra.proofs.Magnitudes.{size-some}
use Rattle.kin_num.specs.Canonical.{IsLowest}
use Rattle.kin_instant.proofs.Widths.{clean, positive_out, below_width}
use Rattle.kin_instant.proofs.Lowest.{lowest_of, crossed}
use Rattle.kin_instant.proofs.ratio.lowest.Goals as goal

-- the greatest common divisor g of |n| and |d|, as the code has it
record Common (n d : ℤ) (g : ℕ) : Type 0 where
  some : 0 < g
  less : g < 2 ^ 63
  common : IsGcd (unsigned_abs n) (unsigned_abs d) g

common_of : (n d n' d' : ℤ) (u v g : ℕ) → pos 0 <ℤ d → unsigned_abs d < 2 ^ 63 → n' ≡ n → d' ≡ d → u ≡ unsigned_abs n' → v ≡ unsigned_abs d' → IsGcd u v g → Common n d g
common_of n d n' d' u v g h k e f p q i =
    let j : IsGcd (unsigned_abs n) (unsigned_abs d) g = subst (λ (x : ℕ). IsGcd x (unsigned_abs d) g) (p ∙ ap unsigned_abs e) (subst (λ (y : ℕ). IsGcd u y g) (q ∙ ap unsigned_abs f) i) in
    let positive : 0 < unsigned_abs d = size-some d h in
    record { some = pos_of_dvd_of_pos j.1 positive; less = below_width g (unsigned_abs d) (le_of_dvd positive j.1) k; common = j }

read : (g : ℕ) → g < 2 ^ 63 → to_z w64 g ≡ pos g
read g h = to_z_pos w64 g h

divides : (x x' : ℤ) (g : ℕ) → g < 2 ^ 63 → x' ≡ x → g ∣ unsigned_abs x → unsigned_abs (to_z w64 g) ∣ unsigned_abs x'
divides x x' g h e d = subst (λ (z : ℤ). unsigned_abs z ∣ unsigned_abs x') (sym (read g h)) (subst (λ (z : ℤ). g ∣ unsigned_abs z) (sym e) d)

quotient : (x x' q : ℤ) (g : ℕ) → g < 2 ^ 63 → x' ≡ x → x' ≡ q *ℤ to_z w64 g → x ≡ q *ℤ pos g
quotient x x' q g h e f = sym e ∙ f ∙ ap (λ (z : ℤ). q *ℤ z) (read g h)

pub overflow_cast-divisor : goal.overflow_cast-divisor
overflow_cast-divisor c =
    let k = common_of c.args.n c.args.d _ _ c.unsigned_abs.result c.unsigned_abs-2.result c.gcd-divisor.result c.requires.d_positive c.requires.d_small (clean w64 c.args.n c.ranges.n.sfits) (clean w64 c.args.d c.ranges.d.sfits) c.unsigned_abs.ensures.value c.unsigned_abs-2.ensures.value c.gcd-divisor.ensures in
    fits_signed_from_abs w64 (pos c.gcd-divisor.result) k.less

pub exact_quotient-requires-clause-positive : goal.exact_quotient-requires-clause-positive
exact_quotient-requires-clause-positive c =
    let k = common_of c.args.n c.args.d _ _ c.unsigned_abs.result c.unsigned_abs-2.result c.gcd-divisor.result c.requires.d_positive c.requires.d_small (clean w64 c.args.n c.ranges.n.sfits) (clean w64 c.args.d c.ranges.d.sfits) c.unsigned_abs.ensures.value c.unsigned_abs-2.ensures.value c.gcd-divisor.ensures in
    positive_out c.gcd-divisor.result k.some k.less

pub exact_quotient-requires-clause-divides : goal.exact_quotient-requires-clause-divides
exact_quotient-requires-clause-divides c =
    let k = common_of c.args.n c.args.d _ _ c.unsigned_abs.result c.unsigned_abs-2.result c.gcd-divisor.result c.requires.d_positive c.requires.d_small (clean w64 c.args.n c.ranges.n.sfits) (clean w64 c.args.d c.ranges.d.sfits) c.unsigned_abs.ensures.value c.unsigned_abs-2.ensures.value c.gcd-divisor.ensures in
    divides c.args.n _ c.gcd-divisor.result k.less (clean w64 c.args.n c.ranges.n.sfits) k.common.0

pub exact_quotient-requires-2-clause-positive : goal.exact_quotient-requires-2-clause-positive
exact_quotient-requires-2-clause-positive c =
    let k = common_of c.args.n c.args.d _ _ c.unsigned_abs.result c.unsigned_abs-2.result c.gcd-divisor.result c.requires.d_positive c.requires.d_small (clean w64 c.args.n c.ranges.n.sfits) (clean w64 c.args.d c.ranges.d.sfits) c.unsigned_abs.ensures.value c.unsigned_abs-2.ensures.value c.gcd-divisor.ensures in
    positive_out c.gcd-divisor.result k.some k.less

pub exact_quotient-requires-2-clause-divides : goal.exact_quotient-requires-2-clause-divides
exact_quotient-requires-2-clause-divides c =
    let k = common_of c.args.n c.args.d _ _ c.unsigned_abs.result c.unsigned_abs-2.result c.gcd-divisor.result c.requires.d_positive c.requires.d_small (clean w64 c.args.n c.ranges.n.sfits) (clean w64 c.args.d c.ranges.d.sfits) c.unsigned_abs.ensures.value c.unsigned_abs-2.ensures.value c.gcd-divisor.ensures in
    divides c.args.d _ c.gcd-divisor.result k.less (clean w64 c.args.d c.ranges.d.sfits) k.common.1

pub returns : goal.returns
returns c =
    let cn = clean w64 c.args.n c.ranges.n.sfits in
    let cd = clean w64 c.args.d c.ranges.d.sfits in
    let k = common_of c.args.n c.args.d _ _ c.unsigned_abs.result c.unsigned_abs-2.result c.gcd-divisor.result c.requires.d_positive c.requires.d_small cn cd c.unsigned_abs.ensures.value c.unsigned_abs-2.ensures.value c.gcd-divisor.ensures in
    let m = c.exact_quotient.result in
    let e = c.exact_quotient-2.result in
    let cm = clean w64 m c.exact_quotient.type_inv in
    let ce = clean w64 e c.exact_quotient-2.type_inv in
    let p = quotient c.args.n _ m c.gcd-divisor.result k.less cn c.exact_quotient.ensures in
    let q = quotient c.args.d _ e c.gcd-divisor.result k.less cd c.exact_quotient-2.ensures in
    record {
      lowest = subst (λ (x : ℤ). IsLowest x (to_z w64 (of_z w64 e))) (sym cm) (subst (λ (y : ℤ). IsLowest m y) (sym ce) (lowest_of c.args.n c.args.d m e c.gcd-divisor.result k.some k.common c.requires.d_positive p q));
      same = ap (λ (x : ℤ). x *ℤ c.args.d) cm ∙ crossed c.args.n c.args.d m e (pos c.gcd-divisor.result) p q ∙ ap (λ (y : ℤ). c.args.n *ℤ y) (sym ce);
    }
