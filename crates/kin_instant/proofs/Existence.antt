-- Every polynomial within the bounds has its roots, as canonical instants.
use Rattle.std.proofs.Common.{◌≡◌, ◌≢◌, ◌⊎◌, inl, inr, ℕ, zero, suc, ◌*◌, ◌<◌, ◌≤◌, ◌^◌, true, false, ℤ, pos, negsuc, ◌-ℤ◌, ◌*ℤ◌, unsigned_abs, arith, refl, ap, sym, ◌∙◌, subst}
use Rattle.std.specs.Prelude.{◌<ℤ◌}
use Rattle.std.specs.Int.{◌∣◌}
use Rattle.std.proofs.lemmas.Int.{ints}
use Rattle.std.proofs.lemmas.Nat.Gcd.{dvd_trans}
use Rattle.std.proofs.Math.Nat.{pos_of_dvd_of_pos, eq-or-lt_of_le}
use lib.IntN.{neg_ℤ}
use Rattle.kin_algebra.proofs.Magnitudes.{size-some, pos-some, negative-some}
use Rattle.kin_algebra.proofs.Squares.{square_below}
use Rattle.kin_num.specs.declared.instant.Shape.{Shape}
use Rattle.kin_num.specs.declared.instant.Shape.TheVariants.{Ratio, Root}
use Rattle.kin_num.specs.Quadratic.{Quadratic, IsSmall, negated}
use Rattle.kin_num.specs.Canonical.{IsCanonical, discriminant}
use Rattle.kin_num.specs.Roots.{IsWholeRoot}
use Rattle.kin_num.proofs.Divisors.{gcd_of}
use Rattle.kin_instant.specs.declared.roots.Roots.{Roots}
use Rattle.kin_instant.specs.declared.roots.Roots.TheVariants.{Nowhere, One, Two, All}
use Rattle.kin_instant.specs.Roots.{quadratic, IsFraction, AreRootsOf, IsSmallInLowestTerms}
use Rattle.kin_instant.proofs.Lowest.{quotient_of, lowest_of, crossed}
use Rattle.kin_instant.proofs.RationalRoots.{line_small, upper_small, lower_small}
use Rattle.kin_instant.proofs.Divided.{canonical}
use Rattle.kin_instant.proofs.Discriminants.{irrational}
use Rattle.kin_instant.proofs.RootsOf.{negated_zeros, count_negated, rising_line, falling_line, zero_everywhere, zero_nowhere, negative_discriminant, double_root, two_fractions, two_surds}

-- the roots that a polynomial has
abbrev pub HasRoots : Quadratic → Type 0
HasRoots p = (answer : Roots) × AreRootsOf p answer

-- ---- fractions
pub ratio_exists : (n d : ℤ) → pos 0 <ℤ d → IsSmallInLowestTerms n d → (r : Shape) × IsFraction n d r × IsCanonical r
ratio_exists n d h small =
    let g = gcd_of (unsigned_abs n) (unsigned_abs d) in
    let some : 0 < g.0 = pos_of_dvd_of_pos g.1.1 (size-some d h) in
    let m = quotient_of n g.0 some g.1.0 in
    let e = quotient_of d g.0 some g.1.1 in
    let same = crossed n d m.0 e.0 (pos g.0) m.1 e.1 in
    let form = lowest_of n d m.0 e.0 g.0 some g.1 h m.1 e.1 in
    (Ratio m.0 e.0, same, record { form = form; small = small m.0 e.0 form same })

-- ---- lines
negative_size : (z : ℤ) (m : ℕ) → unsigned_abs z ≤ m → unsigned_abs (neg_ℤ z) ≤ m
negative_size z m h = omega (arith, ints, h)

module _ (b c : ℤ) (b_small : unsigned_abs b ≤ 2 ^ 31) (c_small : unsigned_abs c ≤ 2 ^ 31) where
  rising : pos 0 <ℤ b → HasRoots (quadratic (pos 0) b c)
  rising h = let r = ratio_exists (neg_ℤ c) b h (line_small (neg_ℤ c) b h (negative_size c (2 ^ 31) c_small) b_small) in (One r.0, rising_line b c h r.0 r.1 r.2)

  falling : b <ℤ pos 0 → HasRoots (quadratic (pos 0) b c)
  falling h = let up = negative-some b h in let r = ratio_exists c (neg_ℤ b) up (line_small c (neg_ℤ b) up c_small (negative_size b (2 ^ 31) b_small)) in (One r.0, falling_line b c h r.0 r.1 r.2)

  level : b ≡ pos 0 → HasRoots (quadratic (pos 0) b c)
  level e = by_constant c refl
    where
      by_constant : (d : ℤ) → c ≡ d → HasRoots (quadratic (pos 0) b c)
      by_constant (pos zero) f = (All, zero_everywhere b c e f)
      by_constant (pos (suc n)) f = (Nowhere, zero_nowhere b c e (λ g. let z : pos (suc n) ≡ pos 0 = sym f ∙ g in absurd (omega (arith, ints, z))))
      by_constant (negsuc n) f = (Nowhere, zero_nowhere b c e (λ g. let z : negsuc n ≡ pos 0 = sym f ∙ g in absurd (omega (arith, ints, z))))

  line_roots : HasRoots (quadratic (pos 0) b c)
  line_roots = by_slope b refl
    where
      by_slope : (x : ℤ) → b ≡ x → HasRoots (quadratic (pos 0) b c)
      by_slope (pos zero) e = level e
      by_slope (pos (suc n)) e = rising (subst (λ (z : ℤ). pos 0 <ℤ z) (sym e) (omega (arith, ints)))
      by_slope (negsuc n) e = falling (subst (λ (z : ℤ). z <ℤ pos 0) (sym e) (omega (arith, ints)))

-- ---- quadratics
module _ (a b c : ℤ) (up : pos 0 <ℤ a) (small : IsSmall (quadratic a b c)) where
  doubled : pos 0 <ℤ (pos 2 *ℤ a)
  doubled = omega (arith, ints)

  -- the discriminant is the square of r
  rational : (r : ℕ) → pos r *ℤ pos r ≡ discriminant a b c → HasRoots (quadratic a b c)
  rational r e = by_root r refl
    where
      by_root : (n : ℕ) → r ≡ n → HasRoots (quadratic a b c)
      by_root zero z =
          let s = ratio_exists (pos r -ℤ b) (pos 2 *ℤ a) doubled (upper_small a b c (pos r) up small e) in
          (One s.0, double_root a b c (pos r) up e (ap pos z) s.0 s.1 s.2)
      by_root (suc n) z =
          let l = ratio_exists (neg_ℤ (pos r) -ℤ b) (pos 2 *ℤ a) doubled (lower_small a b c (pos r) up small e) in
          let s = ratio_exists (pos r -ℤ b) (pos 2 *ℤ a) doubled (upper_small a b c (pos r) up small e) in
          (Two l.0 s.0, two_fractions a b c (pos r) up e (pos-some r (omega (arith, z))) l.0 s.0 l.1 s.1 l.2 s.2)

  -- it is positive, and no square
  surds : pos 0 <ℤ discriminant a b c → ((k : ℕ) → pos (k * k) ≢ discriminant a b c) → HasRoots (quadratic a b c)
  surds real no_square =
      let h = gcd_of (unsigned_abs a) (unsigned_abs b) in
      let g = gcd_of h.0 (unsigned_abs c) in
      let first : g.0 ∣ unsigned_abs a = dvd_trans g.0 g.1.0 h.1.0 in
      let second : g.0 ∣ unsigned_abs b = dvd_trans g.0 g.1.0 h.1.1 in
      let some : 0 < g.0 = pos_of_dvd_of_pos first (size-some a up) in
      let a' = quotient_of a g.0 some first in
      let b' = quotient_of b g.0 some second in
      let c' = quotient_of c g.0 some g.1.1 in (
        Two (Root a'.0 b'.0 c'.0 false) (Root a'.0 b'.0 c'.0 true),
        two_surds a b c (pos g.0) a'.0 b'.0 c'.0 up real (pos-some g.0 some) a'.1 b'.1 c'.1
            (canonical a b c a'.0 b'.0 c'.0 (pos g.0) false (pos-some g.0 some) up small real no_square (λ k p q r. g.1.2 k (h.1.2 k p q) r) a'.1 b'.1 c'.1),
      )

  quadratic_roots : HasRoots (quadratic a b c)
  quadratic_roots = by_discriminant (discriminant a b c) refl
    where
      whole_root : (s : ℕ) → (r : ℕ) × IsWholeRoot s r
      whole_root s = let q = square_below (suc s) (omega arith) in (q.0, record { at_most = omega (arith, q.1); greatest = omega (arith, q.2) })

      by_root : (s : ℕ) → pos s ≡ discriminant a b c → (q : (r : ℕ) × IsWholeRoot s r) → (q.0 * q.0 ≡ s) ⊎ (q.0 * q.0 < s) → HasRoots (quadratic a b c)
      by_root s e q (inl f) = rational q.0 (ap pos f ∙ e)
      by_root s e q (inr l) = surds (subst (λ (z : ℤ). pos 0 <ℤ z) e (pos-some s (omega (arith, l)))) (irrational q.0 s (discriminant a b c) q.1 (λ f. absurd (omega (arith, l, f))) e)

      by_discriminant : (d : ℤ) → discriminant a b c ≡ d → HasRoots (quadratic a b c)
      by_discriminant (negsuc n) e = (Nowhere, negative_discriminant a b c up (subst (λ (z : ℤ). z <ℤ pos 0) (sym e) (omega (arith, ints))))
      by_discriminant (pos s) e = let q = whole_root s in by_root s (sym e) q (eq-or-lt_of_le q.1.at_most)

-- ---- all polynomials
-- the answer of the negated polynomial is its own
pub turned_answer : (p : Quadratic) (answer : Roots) → AreRootsOf (negated p) answer → AreRootsOf p answer
turned_answer p answer h = record {
  canonical = h.canonical;
  exact = λ w i. let z = negated_zeros p w i in (λ e. (h.exact w i).0 (z.0 e), λ l. z.1 ((h.exact w i).1 l));
  rising = h.rising;
  number = h.number ∙ count_negated p;
}

turned_roots : (p : Quadratic) → HasRoots (negated p) → HasRoots p
turned_roots p h = (h.0, turned_answer p h.0 h.1)

turned_small : (p : Quadratic) → IsSmall p → IsSmall (negated p)
turned_small p s = record { a_small = negative_size p.a (2 ^ 29) s.a_small; b_small = negative_size p.b (2 ^ 31) s.b_small; c_small = negative_size p.c (2 ^ 29) s.c_small }

pub roots_exist : (p : Quadratic) → IsSmall p → HasRoots p
roots_exist p small = by_lead p.a refl
  where
    by_lead : (x : ℤ) → p.a ≡ x → HasRoots p
    by_lead (pos zero) e = subst (λ (x : ℤ). HasRoots (quadratic x p.b p.c)) (sym e) (line_roots p.b p.c small.b_small (omega (arith, small.c_small)))
    by_lead (pos (suc n)) e = quadratic_roots p.a p.b p.c (subst (λ (z : ℤ). pos 0 <ℤ z) (sym e) (omega (arith, ints))) small
    by_lead (negsuc n) e = turned_roots p (quadratic_roots (neg_ℤ p.a) (neg_ℤ p.b) (neg_ℤ p.c) (subst (λ (z : ℤ). pos 0 <ℤ neg_ℤ z) (sym e) (omega (arith, ints))) (turned_small p small))
