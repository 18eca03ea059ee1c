-- Values of polynomials at numbers, as pairs over the radicand.
use Rattle.std.proofs.Common.{◌≡◌, ◌≢◌, inl, inr, refl, ap, ap₂, sym, subst, ℕ, ◌+◌, ◌*◌, ◌-◌, true, false, [], ◌∷◌, arith, rules}
use Rattle.std.specs.Prelude.{ℤ, pos, negsuc, ◌+ℤ◌, ◌*ℤ◌, ◌<ℤ◌}
use Rattle.std.proofs.lemmas.Int.{ints}
use Rattle.std.proofs.lemmas.Nat.Gcd.{IsGcd-swap, IsGcd-from_zero}
use lib.IntN.{neg_ℤ}
use Rattle.kin_algebra.proofs.Ring.{by_ring, quotes}
use Rattle.kin_algebra.proofs.Radicals.{Radical}
use Rattle.kin_algebra.proofs.Squares.{square_below, radical_between}
use Rattle.kin_algebra.proofs.Pairs.{Pair, pair, pair_plus, pair_negative, Sound}
use Rattle.kin_num.specs.declared.instant.Shape.{Shape}
use Rattle.kin_num.specs.declared.instant.Shape.TheVariants.{Ratio, Root}
use Rattle.kin_num.specs.Quadratic.{Quadratic}
pub use Rattle.kin_num.specs.Quadratic.{quadratic_sum, negated}
use Rattle.kin_num.specs.Canonical.{IsCanonical, IsCanonicalForm, IsIrreducible, discriminant}
use Rattle.kin_num.specs.Instants.{Number, number_of, whole_part, root_part}

-- the value at a number, times the square of the divisor
abbrev pub value : Quadratic → Number → Pair
value p x = pair (whole_part p x) (root_part p x)

-- ---- radicands
pub radical_of : (d : ℤ) → pos 0 <ℤ d → ((k : ℕ) → pos (k * k) ≢ d) → Radical d
radical_of (negsuc n) h no_square = absurd (omega (arith, ints))
radical_of (pos n) h no_square =
    let b = square_below n (omega (arith, ints)) in
    let other : n ≢ (b.0 + 1) * (b.0 + 1) = λ e. no_square (b.0 + 1) (ap pos (sym e)) in
    let whole : b.0 * b.0 + (n - b.0 * b.0) ≡ n = omega (arith, b.1) in
    subst Radical (ap pos whole) (radical_between b.0 (n - b.0 * b.0) (omega (arith, b.1)) (omega (arith, b.1, b.2, other)))

pub irreducible-radical : (a b c : ℤ) → IsIrreducible a b c → Radical (discriminant a b c)
irreducible-radical a b c i = radical_of (discriminant a b c) i.real i.irrational

pub irreducible-sound : (a b c : ℤ) → IsIrreducible a b c → Sound (discriminant a b c)
irreducible-sound a b c i = inr (irreducible-radical a b c i)

pub canonical-sound : (w : Shape) → IsCanonicalForm w → Sound (number_of w).radicand
canonical-sound (Ratio n d) i = inl refl
canonical-sound (Root a b c true) i = irreducible-sound a b c i
canonical-sound (Root a b c false) i = irreducible-sound a b c i

-- ---- the instant 0
pub start_canonical : IsCanonical (Ratio (pos 0) (pos 1))
start_canonical = record {
  form = record { positive = search rules; lowest = IsGcd-swap 1 0 1 (IsGcd-from_zero 1 0 refl) };
  small = record { n_small = omega arith; d_small = omega arith };
}

-- ---- sums and negatives
whole_sum : (a b c a' b' c' n m d q : ℤ) →
    (a +ℤ a') *ℤ (n *ℤ n +ℤ m *ℤ m *ℤ d) +ℤ (b +ℤ b') *ℤ n *ℤ q +ℤ (c +ℤ c') *ℤ q *ℤ q
    ≡ (a *ℤ (n *ℤ n +ℤ m *ℤ m *ℤ d) +ℤ b *ℤ n *ℤ q +ℤ c *ℤ q *ℤ q) +ℤ (a' *ℤ (n *ℤ n +ℤ m *ℤ m *ℤ d) +ℤ b' *ℤ n *ℤ q +ℤ c' *ℤ q *ℤ q)
whole_sum a b c a' b' c' n m d q = by_ring (a ∷ b ∷ c ∷ a' ∷ b' ∷ c' ∷ n ∷ m ∷ d ∷ q ∷ []) _ _ (search quotes depth 30 fits 40000) (search quotes depth 30 fits 40000) refl

root_sum : (a b a' b' n m q : ℤ) → pos 2 *ℤ (a +ℤ a') *ℤ n *ℤ m +ℤ (b +ℤ b') *ℤ m *ℤ q ≡ (pos 2 *ℤ a *ℤ n *ℤ m +ℤ b *ℤ m *ℤ q) +ℤ (pos 2 *ℤ a' *ℤ n *ℤ m +ℤ b' *ℤ m *ℤ q)
root_sum a b a' b' n m q = by_ring (a ∷ b ∷ a' ∷ b' ∷ n ∷ m ∷ q ∷ []) _ _ (search quotes depth 30 fits 40000) (search quotes depth 30 fits 40000) refl

pub value-sum : (p q : Quadratic) (x : Number) → value (quadratic_sum p q) x ≡ pair_plus (value p x) (value q x)
value-sum p q x = ap₂ pair (whole_sum p.a p.b p.c q.a q.b q.c x.whole x.root x.radicand x.divisor) (root_sum p.a p.b q.a q.b x.whole x.root x.divisor)

whole_negated : (a b c n m d q : ℤ) → neg_ℤ a *ℤ (n *ℤ n +ℤ m *ℤ m *ℤ d) +ℤ neg_ℤ b *ℤ n *ℤ q +ℤ neg_ℤ c *ℤ q *ℤ q ≡ neg_ℤ (a *ℤ (n *ℤ n +ℤ m *ℤ m *ℤ d) +ℤ b *ℤ n *ℤ q +ℤ c *ℤ q *ℤ q)
whole_negated a b c n m d q = by_ring (a ∷ b ∷ c ∷ n ∷ m ∷ d ∷ q ∷ []) _ _ (search quotes depth 24) (search quotes depth 24) refl

root_negated : (a b n m q : ℤ) → pos 2 *ℤ neg_ℤ a *ℤ n *ℤ m +ℤ neg_ℤ b *ℤ m *ℤ q ≡ neg_ℤ (pos 2 *ℤ a *ℤ n *ℤ m +ℤ b *ℤ m *ℤ q)
root_negated a b n m q = by_ring (a ∷ b ∷ n ∷ m ∷ q ∷ []) _ _ (search quotes depth 24) (search quotes depth 24) refl

pub value-negated : (p : Quadratic) (x : Number) → value (negated p) x ≡ pair_negative (value p x)
value-negated p x = ap₂ pair (whole_negated p.a p.b p.c x.whole x.root x.radicand x.divisor) (root_negated p.a p.b x.whole x.root x.divisor)
