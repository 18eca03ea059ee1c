use Rattle.std.proofs.Common.{◌≡◌, ℕ, ◌<◌, ◌^◌, ℤ, pos, unsigned_abs, w64, to_z, ap, sym, ◌∙◌, subst}
use Rattle.std.specs.Prelude.{◌<ℤ◌}
use Rattle.std.specs.Int.{IsGcd, ◌∣◌}
use Rattle.std.proofs.lemmas.Int.{fits_signed_from_abs, to_z_pos}
use Rattle.std.proofs.lemmas.Nat.Gcd.{dvd_trans, le_of_dvd}
use Rattle.kin_instant.proofs.Widths.{clean, positive_out, below_width}
use Rattle.std.proofs.Math.Nat.{pos_of_dvd_of_pos, one-dvd}
use Rattle.kin_algebra.proofs.Magnitudes.{size-some}
use Rattle.kin_instant.proofs.curve.common_divisor.Goals as goal

-- g is the greatest common divisor of |a|, |b| and |c|, as the code has it
record Shared (a b c : ℤ) (g : ℕ) : Type 0 where
  some : 0 < g
  less : g < 2 ^ 63
  first : g ∣ unsigned_abs a
  second : g ∣ unsigned_abs b
  third : g ∣ unsigned_abs c
  greatest : (k : ℕ) → k ∣ unsigned_abs a → k ∣ unsigned_abs b → k ∣ unsigned_abs c → k ∣ g

shared_of : (a b c a' b' c' : ℤ) (u v w h g : ℕ) → pos 0 <ℤ a → unsigned_abs a < 2 ^ 63 → a' ≡ a → b' ≡ b → c' ≡ c → u ≡ unsigned_abs a' → v ≡ unsigned_abs b' → w ≡ unsigned_abs c' → IsGcd v u h → IsGcd w h g → Shared a b c g
shared_of a b c a' b' c' u v w h g some small ea eb ec pu pv pw i j =
    let fu : u ≡ unsigned_abs a = pu ∙ ap unsigned_abs ea in
    let fv : v ≡ unsigned_abs b = pv ∙ ap unsigned_abs eb in
    let fw : w ≡ unsigned_abs c = pw ∙ ap unsigned_abs ec in
    let first : g ∣ unsigned_abs a = subst (λ (x : ℕ). g ∣ x) fu (dvd_trans g j.1 i.1) in
    record {
      some = pos_of_dvd_of_pos first (size-some a some);
      less = below_width g (unsigned_abs a) (le_of_dvd (size-some a some) first) small;
      first = first;
      second = subst (λ (x : ℕ). g ∣ x) fv (dvd_trans g j.1 i.0);
      third = subst (λ (x : ℕ). g ∣ x) fw j.0;
      greatest = λ k p q r. j.2 k (subst (λ (x : ℕ). k ∣ x) (sym fw) r) (i.2 k (subst (λ (x : ℕ). k ∣ x) (sym fv) q) (subst (λ (x : ℕ). k ∣ x) (sym fu) p));
    }

read : (g : ℕ) → g < 2 ^ 63 → unsigned_abs (to_z w64 g) ≡ g
read g h = ap unsigned_abs (to_z_pos w64 g h)

pub overflow_cast-result : goal.overflow_cast-result
overflow_cast-result c = fits_signed_from_abs w64 (pos c.gcd.result) (shared_of c.args.a c.args.b c.args.c _ _ _ c.unsigned_abs-2.result c.unsigned_abs.result c.unsigned_abs-3.result c.gcd-divisor.result c.gcd.result c.requires.a_positive c.requires.a_small (clean w64 c.args.a c.ranges.a.sfits) (clean w64 c.args.b c.ranges.b.sfits) (clean w64 c.args.c c.ranges.c.sfits) c.unsigned_abs-2.ensures.value c.unsigned_abs.ensures.value c.unsigned_abs-3.ensures.value c.gcd-divisor.ensures c.gcd.ensures).less

pub returns : goal.returns
returns c =
    let k = shared_of c.args.a c.args.b c.args.c _ _ _ c.unsigned_abs-2.result c.unsigned_abs.result c.unsigned_abs-3.result c.gcd-divisor.result c.gcd.result c.requires.a_positive c.requires.a_small (clean w64 c.args.a c.ranges.a.sfits) (clean w64 c.args.b c.ranges.b.sfits) (clean w64 c.args.c c.ranges.c.sfits) c.unsigned_abs-2.ensures.value c.unsigned_abs.ensures.value c.unsigned_abs-3.ensures.value c.gcd-divisor.ensures c.gcd.ensures in
    let g = c.gcd.result in
    let r = read g k.less in
    record {
      positive = positive_out g k.some k.less;
      divides_a = subst (λ (x : ℕ). x ∣ unsigned_abs c.args.a) (sym r) k.first;
      divides_b = subst (λ (x : ℕ). x ∣ unsigned_abs c.args.b) (sym r) k.second;
      divides_c = subst (λ (x : ℕ). x ∣ unsigned_abs c.args.c) (sym r) k.third;
      greatest = λ j p q s. subst (λ (x : ℕ). j ∣ x) (sym r) (k.greatest j p q s);
    }

pub returns-then-divisor-eq1-clause-divides_c : goal.returns-then-divisor-eq1-clause-divides_c
returns-then-divisor-eq1-clause-divides_c c = one-dvd (unsigned_abs c.args.c)

pub returns-then-divisor-eq1-clause-greatest : goal.returns-then-divisor-eq1-clause-greatest
returns-then-divisor-eq1-clause-greatest c = λ k p q r.
    subst (λ (x : ℕ). k ∣ x) c.if-divisor-eq1.true
    (c.gcd-divisor.ensures.2 k
    (subst (λ (x : ℕ). k ∣ x) (sym (c.unsigned_abs.ensures.value ∙ ap unsigned_abs (clean w64 c.args.b c.ranges.b.sfits))) q)
    (subst (λ (x : ℕ). k ∣ x) (sym (c.unsigned_abs-2.ensures.value ∙ ap unsigned_abs (clean w64 c.args.a c.ranges.a.sfits))) p))
