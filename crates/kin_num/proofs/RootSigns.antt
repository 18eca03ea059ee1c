-- A root of an irreducible quadratic against fractions, and where a polynomial has sign 0 at it.
use Rattle.std.proofs.Common.{◌≡◌, zero, suc, Bool, true, false, [], ◌∷◌, refl, sym, ap, ap₂, ◌∙◌, arith}
use Rattle.std.specs.Prelude.{ℤ, pos, negsuc, ◌-ℤ◌, ◌*ℤ◌, ◌<ℤ◌}
use Rattle.std.proofs.lemmas.Int.{ints}
use lib.IntN.{neg_ℤ}
use Rattle.kin_algebra.specs.declared.sign.Sign.{Sign}
use Rattle.kin_algebra.specs.declared.sign.Sign.TheVariants.{Minus, Plus}
use Rattle.kin_algebra.specs.Signs.{sign_of, opposite_of, sum_sign_of, norm_of, pair_sign_of}
use Rattle.kin_algebra.proofs.Ring.{by_ring, quotes}
use Rattle.kin_algebra.proofs.Signs.{opposite-opposite}
use Rattle.kin_algebra.proofs.OrderedRings.{scale}
use Rattle.kin_algebra.proofs.IntegerSigns.{ordered_integers, sign_of-negative, sign_in}
use Rattle.kin_num.specs.declared.instant.Shape.TheVariants.{Root}
use Rattle.kin_num.specs.Quadratic.{Quadratic, quadratic}
use Rattle.kin_num.specs.Canonical.{IsIrreducible, discriminant}
use Rattle.kin_num.specs.Instants.{number_of, sign_at_number, line, derivative, side}
use Rattle.kin_num.proofs.Values.{irreducible-sound}
use Rattle.kin_num.proofs.Near.{at_fraction, line_sign}

pub pair_sign-positive : (u v d : ℤ) → pos 0 <ℤ d → pair_sign_of u v d ≡ sum_sign_of (sign_of u) (sign_of v) (sign_of (norm_of u v d))
pair_sign-positive u v (pos zero) h = absurd (omega (arith, ints))
pair_sign-positive u v (pos (suc n)) h = refl
pair_sign-positive u v (negsuc n) h = absurd (omega (arith, ints))

pub times_positive : (k z : ℤ) → sign_of k ≡ Plus → sign_of (k *ℤ z) ≡ sign_of z
times_positive k z e = scale ordered_integers z e

module _ (a b c : ℤ) (i : IsIrreducible a b c) where
  abbrev D : ℤ
  D = discriminant a b c

  abbrev q : Quadratic
  q = quadratic a b c

  pub a_plus : sign_of a ≡ Plus
  a_plus = sign_in Plus a i.positive

  pub double_plus : sign_of (pos 2 *ℤ a) ≡ Plus
  double_plus = times_positive (pos 2) a refl ∙ a_plus

  module _ (k t : ℤ) (t_plus : sign_of t ≡ Plus) where
    slope-as : (a b k t : ℤ) → t *ℤ neg_ℤ (t *ℤ neg_ℤ b -ℤ k *ℤ (pos 2 *ℤ a)) ≡ at_fraction (derivative (quadratic a b c)) t k
    slope-as a b k t = by_ring (a ∷ b ∷ k ∷ t ∷ []) _ _ (search quotes depth 30 fits 40000) (search quotes depth 30 fits 40000) refl

    upper_norm : (a b c k t : ℤ) → norm_of (t *ℤ neg_ℤ b -ℤ k *ℤ (pos 2 *ℤ a)) (t *ℤ pos 1) (discriminant a b c) ≡ (pos 4 *ℤ a) *ℤ at_fraction (quadratic a b c) t k
    upper_norm a b c k t = by_ring (a ∷ b ∷ c ∷ k ∷ t ∷ []) _ _ (search quotes depth 30 fits 40000) (search quotes depth 30 fits 40000) refl

    lower_norm : (a b c k t : ℤ) → norm_of (t *ℤ neg_ℤ b -ℤ k *ℤ (pos 2 *ℤ a)) (t *ℤ negsuc 0) (discriminant a b c) ≡ (pos 4 *ℤ a) *ℤ at_fraction (quadratic a b c) t k
    lower_norm a b c k t = by_ring (a ∷ b ∷ c ∷ k ∷ t ∷ []) _ _ (search quotes depth 30 fits 40000) (search quotes depth 30 fits 40000) refl

    abbrev U : ℤ
    U = t *ℤ neg_ℤ b -ℤ k *ℤ (pos 2 *ℤ a)

    abbrev slope_there : Sign
    slope_there = sign_of (at_fraction (derivative q) t k)

    abbrev value_there : Sign
    value_there = sign_of (at_fraction q t k)

    whole_sign : sign_of U ≡ opposite_of slope_there
    whole_sign =
        sym (opposite-opposite (sign_of U))
        ∙ ap opposite_of (sym (sign_of-negative U) ∙ sym (times_positive t (neg_ℤ U) t_plus) ∙ ap sign_of (slope-as a b k t))

    four_a : sign_of (pos 4 *ℤ a) ≡ Plus
    four_a = times_positive (pos 4) a refl ∙ a_plus

    upper_against : sign_at_number (line k t) (number_of (Root a b c true)) ≡ sum_sign_of (opposite_of slope_there) Plus value_there
    upper_against =
        line_sign (number_of (Root a b c true)) (irreducible-sound a b c i) double_plus k t
        ∙ pair_sign-positive U (t *ℤ pos 1) D i.real
        ∙ ap (λ s. sum_sign_of s (sign_of (t *ℤ pos 1)) (sign_of (norm_of U (t *ℤ pos 1) D))) whole_sign
        ∙ ap₂ (sum_sign_of (opposite_of slope_there)) (times_positive t (pos 1) t_plus) (ap sign_of (upper_norm a b c k t) ∙ times_positive (pos 4 *ℤ a) (at_fraction q t k) four_a)

    lower_against : sign_at_number (line k t) (number_of (Root a b c false)) ≡ sum_sign_of (opposite_of slope_there) Minus value_there
    lower_against =
        line_sign (number_of (Root a b c false)) (irreducible-sound a b c i) double_plus k t
        ∙ pair_sign-positive U (t *ℤ negsuc 0) D i.real
        ∙ ap (λ s. sum_sign_of s (sign_of (t *ℤ negsuc 0)) (sign_of (norm_of U (t *ℤ negsuc 0) D))) whole_sign
        ∙ ap₂ (sum_sign_of (opposite_of slope_there)) (times_positive t (negsuc 0) t_plus) (ap sign_of (lower_norm a b c k t) ∙ times_positive (pos 4 *ℤ a) (at_fraction q t k) four_a)

    -- the line t*T - k at a root, by the signs of the quadratic and its slope at k/t
    pub root_against_fraction : (upper : Bool) → sign_at_number (line k t) (number_of (Root a b c upper)) ≡ sum_sign_of (opposite_of slope_there) (side upper) value_there
    root_against_fraction true = upper_against
    root_against_fraction false = lower_against
