-- The sign of the negated polynomial, at every moment.
use Rattle.std.proofs.Common.{◌≡◌, refl, ap, ap₂, sym, ◌∙◌, zero, suc, [], ◌∷◌}
use Rattle.std.specs.Prelude.{ℤ, pos, negsuc, ◌*ℤ◌}
use lib.IntN.{neg_ℤ}
use Rattle.kin_algebra.specs.declared.sign.Sign.{Sign}
use Rattle.kin_algebra.specs.declared.sign.Sign.TheVariants.{Minus, Zero, Plus}
use Rattle.kin_algebra.specs.Signs.{sign_of, opposite_of, sum_sign_of, first_of, norm_of, pair_sign_of}
use Rattle.kin_algebra.proofs.Ring.{by_ring, quotes}
use Rattle.kin_algebra.proofs.Signs.{opposite-opposite, first_of-opposite}
use Rattle.kin_algebra.proofs.IntegerSigns.{sign_of-negative}
use Rattle.kin_num.specs.declared.instant.Shape.{Shape}
use Rattle.kin_num.specs.declared.instant.Phase.{Phase}
use Rattle.kin_num.specs.declared.instant.Phase.TheVariants.{At, After}
use Rattle.kin_num.specs.declared.instant.Moment.{Moment}
use Rattle.kin_num.specs.Quadratic.{Quadratic}
use Rattle.kin_num.specs.Instants.{number_of, sign_at_instant, derivative, sign_at_phase, sign_at}
use Rattle.kin_algebra.proofs.Pairs.{sign_over}
use Rattle.kin_algebra.proofs.PairProducts.{norm_of-negative}
use Rattle.kin_num.proofs.Values.{value-negated}
pub use Rattle.kin_num.proofs.Values.{negated}

sum_sign-opposite : (s t n : Sign) → sum_sign_of (opposite_of s) (opposite_of t) n ≡ opposite_of (sum_sign_of s t n)
sum_sign-opposite Minus Minus n = refl
sum_sign-opposite Minus Zero n = refl
sum_sign-opposite Minus Plus n = sym (opposite-opposite n)
sum_sign-opposite Zero t n = refl
sum_sign-opposite Plus Minus n = refl
sum_sign-opposite Plus Zero n = refl
sum_sign-opposite Plus Plus n = refl

-- for every d, sound or not
pub pair_sign-negative : (u v d : ℤ) → pair_sign_of (neg_ℤ u) (neg_ℤ v) d ≡ opposite_of (pair_sign_of u v d)
pair_sign-negative u v (pos zero) = sign_of-negative u
pair_sign-negative u v (pos (suc d)) =
    ap (λ n. sum_sign_of (sign_of (neg_ℤ u)) (sign_of (neg_ℤ v)) (sign_of n)) (norm_of-negative u v (pos (suc d)))
    ∙ ap₂ (λ s t. sum_sign_of s t (sign_of (norm_of u v (pos (suc d))))) (sign_of-negative u) (sign_of-negative v)
    ∙ sum_sign-opposite (sign_of u) (sign_of v) (sign_of (norm_of u v (pos (suc d))))
pair_sign-negative u v (negsuc d) = refl

pub sign_at_instant-neg : (p : Quadratic) (w : Shape) → sign_at_instant (negated p) w ≡ opposite_of (sign_at_instant p w)
unfolding sign_at_instant
sign_at_instant-neg p w = ap (sign_over (number_of w).radicand) (value-negated p (number_of w)) ∙ pair_sign-negative _ _ (number_of w).radicand

double_negative : (a : ℤ) → pos 2 *ℤ neg_ℤ a ≡ neg_ℤ (pos 2 *ℤ a)
double_negative a = by_ring (a ∷ []) _ _ (search quotes depth 10) (search quotes depth 10) refl

pub derivative-negated : (p : Quadratic) → derivative (negated p) ≡ negated (derivative p)
derivative-negated p = ap (λ (z : ℤ). record { a = pos 0; b = z; c = neg_ℤ p.b }) (double_negative p.a)

pub sign_at_phase-neg : (p : Quadratic) (w : Shape) (f : Phase) → sign_at_phase (negated p) w f ≡ opposite_of (sign_at_phase p w f)
sign_at_phase-neg p w At = sign_at_instant-neg p w
sign_at_phase-neg p w After =
    let one : sign_at_instant (derivative (negated p)) w ≡ opposite_of (sign_at_instant (derivative p) w) =
    ap (λ (q : Quadratic). sign_at_instant q w) (derivative-negated p) ∙ sign_at_instant-neg (derivative p) w in
    let two : sign_at_instant (derivative (derivative (negated p))) w ≡ opposite_of (sign_at_instant (derivative (derivative p)) w) =
    ap (λ (q : Quadratic). sign_at_instant (derivative q) w) (derivative-negated p)
    ∙ ap (λ (q : Quadratic). sign_at_instant q w) (derivative-negated (derivative p))
    ∙ sign_at_instant-neg (derivative (derivative p)) w in
    rw (sign_at_instant-neg p w, one, two)
    (ap (first_of (opposite_of (sign_at_instant p w))) (first_of-opposite (sign_at_instant (derivative p) w) (sign_at_instant (derivative (derivative p)) w))
    ∙ first_of-opposite (sign_at_instant p w) (first_of (sign_at_instant (derivative p) w) (sign_at_instant (derivative (derivative p)) w)))

pub sign_at-neg : (p : Quadratic) (m : Moment) → sign_at (negated p) m ≡ opposite_of (sign_at p m)
unfolding sign_at
sign_at-neg p m = sign_at_phase-neg p m.at m.phase
