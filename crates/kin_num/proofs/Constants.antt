-- The sign of a constant, and that of a curvature, are the same at all instants.
use Rattle.std.proofs.Common.{◌≡◌, [], ◌∷◌, refl, ap₂, ◌∙◌, ℤ, pos, ◌+ℤ◌, ◌*ℤ◌}
use Rattle.kin_algebra.specs.Signs.{sign_of, pair_sign_of}
use Rattle.kin_algebra.proofs.Ring.{by_ring, quotes}
use Rattle.kin_algebra.proofs.Pairs.{sign_over-whole}
use Rattle.kin_num.specs.declared.instant.Shape.{Shape}
use Rattle.kin_num.specs.Quadratic.{Quadratic, linear}
use Rattle.kin_num.specs.Canonical.{IsCanonicalForm}
use Rattle.kin_num.specs.Instants.{number_of, sign_at_instant, derivative}
use Rattle.kin_num.proofs.Values.{canonical-sound}
use Rattle.kin_num.proofs.RootSigns.{times_positive}
use Rattle.kin_num.proofs.RootZeros.{divisor-positive}

constant_whole : (c n m d q : ℤ) → pos 0 *ℤ (n *ℤ n +ℤ m *ℤ m *ℤ d) +ℤ pos 0 *ℤ n *ℤ q +ℤ c *ℤ q *ℤ q ≡ q *ℤ (q *ℤ c)
constant_whole c n m d q = by_ring (c ∷ n ∷ m ∷ d ∷ q ∷ []) _ _ (search quotes depth 24 fits 20000) (search quotes depth 24 fits 20000) refl

constant_root : (n m q : ℤ) → pos 2 *ℤ pos 0 *ℤ n *ℤ m +ℤ pos 0 *ℤ m *ℤ q ≡ pos 0
constant_root n m q = by_ring (n ∷ m ∷ q ∷ []) _ _ (search quotes depth 20) (search quotes depth 20) refl

pub constant_sign : (c : ℤ) (w : Shape) → IsCanonicalForm w → sign_at_instant (linear (pos 0) c) w ≡ sign_of c
unfolding sign_at_instant
constant_sign c w form =
    let x = number_of w in
    let q = divisor-positive w form in
    ap₂ (λ u v. pair_sign_of u v x.radicand) (constant_whole c x.whole x.root x.radicand x.divisor) (constant_root x.whole x.root x.divisor)
    ∙ sign_over-whole x.radicand (canonical-sound w form) (x.divisor *ℤ (x.divisor *ℤ c))
    ∙ times_positive x.divisor (x.divisor *ℤ c) q ∙ times_positive x.divisor c q

pub curvature_sign : (p : Quadratic) (w : Shape) → IsCanonicalForm w → sign_at_instant (derivative (derivative p)) w ≡ sign_of p.a
curvature_sign p w form = constant_sign (pos 2 *ℤ p.a) w form ∙ times_positive (pos 2) p.a refl
