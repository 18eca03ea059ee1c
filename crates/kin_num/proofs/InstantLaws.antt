-- The sign of a sum, at every canonical moment.
use Rattle.std.proofs.Common.{◌≡◌, ap, sym, ◌∙◌, subst, arith}
use Rattle.std.specs.Prelude.{ℤ, pos, ◌+ℤ◌, ◌*ℤ◌}
use Rattle.std.proofs.lemmas.Int.{ints}
use Rattle.kin_algebra.specs.Signs.{SumMayBe}
use Rattle.kin_algebra.proofs.OrderedRings.{sum_may_be}
use Rattle.kin_algebra.proofs.Pairs.{ordered, sign_over}
use Rattle.kin_algebra.proofs.Signs.{first_of-sum}
use Rattle.kin_num.specs.declared.instant.Shape.{Shape}
use Rattle.kin_num.specs.declared.instant.Phase.{Phase}
use Rattle.kin_num.specs.declared.instant.Phase.TheVariants.{At, After}
use Rattle.kin_num.specs.declared.instant.Moment.{Moment}
use Rattle.kin_num.specs.Quadratic.{Quadratic}
use Rattle.kin_num.specs.Canonical.{IsCanonical, IsCanonicalForm}
use Rattle.kin_num.specs.Instants.{number_of, sign_at_instant, derivative, sign_at_phase, sign_at}
use Rattle.kin_num.proofs.Values.{value, value-sum, canonical-sound}
pub use Rattle.kin_num.proofs.Values.{quadratic_sum}

pub instant_sum : (p q : Quadratic) (w : Shape) → IsCanonicalForm w → SumMayBe (sign_at_instant p w) (sign_at_instant q w) (sign_at_instant (quadratic_sum p q) w)
unfolding sign_at_instant
instant_sum p q w c =
    let x = number_of w in
    subst (SumMayBe (sign_at_instant p w) (sign_at_instant q w)) (ap (sign_over x.radicand) (sym (value-sum p q x)))
    (sum_may_be (ordered x.radicand (canonical-sound w c)) (value p x) (value q x))

-- ---- sums at both phases
twice_sum : (a b : ℤ) → pos 2 *ℤ (a +ℤ b) ≡ pos 2 *ℤ a +ℤ pos 2 *ℤ b
twice_sum a b = omega (arith, ints)

derivative-sum : (p q : Quadratic) → derivative (quadratic_sum p q) ≡ quadratic_sum (derivative p) (derivative q)
derivative-sum p q = ap (λ (z : ℤ). record { a = pos 0; b = z; c = p.b +ℤ q.b }) (twice_sum p.a q.a)

phase_sum : (p q : Quadratic) (w : Shape) (f : Phase) → IsCanonicalForm w → SumMayBe (sign_at_phase p w f) (sign_at_phase q w f) (sign_at_phase (quadratic_sum p q) w f)
phase_sum p q w At c = instant_sum p q w c
phase_sum p q w After c =
    let one : SumMayBe (sign_at_instant (derivative p) w) (sign_at_instant (derivative q) w) (sign_at_instant (derivative (quadratic_sum p q)) w) =
    subst (λ x. SumMayBe (sign_at_instant (derivative p) w) (sign_at_instant (derivative q) w) (sign_at_instant x w)) (sym (derivative-sum p q)) (instant_sum (derivative p) (derivative q) w c) in
    let again : derivative (derivative (quadratic_sum p q)) ≡ quadratic_sum (derivative (derivative p)) (derivative (derivative q)) = ap derivative (derivative-sum p q) ∙ derivative-sum (derivative p) (derivative q) in
    let two : SumMayBe (sign_at_instant (derivative (derivative p)) w) (sign_at_instant (derivative (derivative q)) w) (sign_at_instant (derivative (derivative (quadratic_sum p q))) w) =
    subst (λ x. SumMayBe (sign_at_instant (derivative (derivative p)) w) (sign_at_instant (derivative (derivative q)) w) (sign_at_instant x w)) (sym again) (instant_sum (derivative (derivative p)) (derivative (derivative q)) w c) in
    first_of-sum _ _ _ _ _ _ (instant_sum p q w c) (first_of-sum _ _ _ _ _ _ one two)

-- the sign of a sum at a moment of a canonical instant
pub sign_at-sum-form : (p q : Quadratic) (m : Moment) → IsCanonicalForm m.at → SumMayBe (sign_at p m) (sign_at q m) (sign_at (quadratic_sum p q) m)
unfolding sign_at
sign_at-sum-form p q m form = phase_sum p q m.at m.phase form

pub sign_at-sum : (p q : Quadratic) (m : Moment) → IsCanonical m.at → SumMayBe (sign_at p m) (sign_at q m) (sign_at (quadratic_sum p q) m)
sign_at-sum p q m c = sign_at-sum-form p q m c.form
