-- Finitely many forms have, at a moment of either phase, the signs of their values at one number.
use Rattle.std.proofs.Common.{◌≡◌, ◌⊎◌, inl, inr, refl, ap, ◌∙◌, arith, List, [], ◌∷◌, ℕ, suc, ◌+◌, ◌*◌, ◌^◌, ◌<◌, ◌≤◌, unsigned_abs}
use Rattle.std.specs.Prelude.{pos, Contains}
use Rattle.std.proofs.lemmas.Int.{unsigned_abs-mul}
use Rattle.kin_algebra.proofs.Members.{contains_none, contains_cases}
use Rattle.kin_algebra.specs.declared.sign.Sign.TheVariants.{Plus}
use Rattle.kin_algebra.specs.Signs.{sign_of}
use Rattle.kin_algebra.proofs.Pairs.{Sound}
use Rattle.kin_algebra.proofs.IntegerSigns.{ordered_integers}
use Rattle.kin_algebra.proofs.OrderedRings.{positive_product}
use Rattle.kin_num.specs.declared.instant.Phase.{Phase}
use Rattle.kin_num.specs.declared.instant.Phase.TheVariants.{At, After}
use Rattle.kin_num.specs.declared.instant.Moment.{Moment}
use Rattle.kin_num.specs.Quadratic.{Quadratic}
use Rattle.kin_num.specs.Canonical.{IsCanonical}
use Rattle.kin_num.specs.Instants.{Number, number_of, sign_at_number, sign_at_instant, derivative, sign_at_phase, sign_at, later_by}
use Rattle.kin_num.proofs.Near.{HasHeight, HasSize}
use Rattle.kin_num.proofs.Sizes.{small_size}
use Rattle.kin_num.proofs.Seat.{seat_later}

-- as high as the coefficients of a polynomial and of its derivative
height_of : Quadratic → ℕ
height_of p = 2 * unsigned_abs p.a + unsigned_abs p.b + unsigned_abs p.c

heights : List Quadratic → ℕ
heights [] = 1
heights (p ∷ ps) = height_of p + heights ps

heights_some : (ps : List Quadratic) → 0 < heights ps
unfolding heights
heights_some [] = omega arith
heights_some (p ∷ ps) = let h = heights_some ps in omega (arith, h)

height_most : (ps : List Quadratic) (p : Quadratic) → Contains ps p → height_of p ≤ heights ps
unfolding heights
height_most [] p c = absurd (contains_none p c)
height_most (q ∷ ps) p c = at (contains_cases q p ps c) (height_most ps p)
  where
    at : (q ≡ p) ⊎ Contains ps p → (Contains ps p → height_of p ≤ heights ps) → height_of p ≤ height_of q + heights ps
    at (inl e) rest = let f : height_of q ≡ height_of p = ap height_of e in omega (arith, f)
    at (inr h) rest = let g = rest h in omega (arith, g)

own_height : (p : Quadratic) (h : ℕ) → height_of p ≤ h → HasHeight p h
unfolding height_of
own_height p h m = record { a_most = omega (arith, m); b_most = omega (arith, m); c_most = omega (arith, m) }

slope_height : (p : Quadratic) (h : ℕ) → height_of p ≤ h → HasHeight (derivative p) h
unfolding height_of
slope_height p h m = record { a_most = omega arith; b_most = (let e = unsigned_abs-mul (pos 2) p.a in omega (arith, e, m)); c_most = omega (arith, m) }

-- a number at which each of these polynomials has its sign at the moment
pub record SeenAt (m : Moment) (ps : List Quadratic) : Type 0 where
  pub number : Number
  pub sound : Sound number.radicand
  pub positive : sign_of number.divisor ≡ Plus
  pub each : (p : Quadratic) → Contains ps p → sign_at p m ≡ sign_at_number p number

pub seen_at : (m : Moment) (ps : List Quadratic) → IsCanonical m.at → SeenAt m ps
unfolding sign_at sign_at_instant
seen_at m ps c = at m.phase refl
  where
    size : HasSize (number_of m.at) (2 ^ 33)
    size = small_size m.at c.form c.small

    h : ℕ
    h = heights ps

    t : ℕ
    t = 12 * (heights ps * heights ps) * ((2 ^ 33 * 2 ^ 33) * (2 ^ 33 * 2 ^ 33)) + 1

    at : (f : Phase) → m.phase ≡ f → SeenAt m ps
    at At e = record {
      number = number_of m.at;
      sound = size.sound;
      positive = size.positive;
      each = λ p k. ap (λ (f : Phase). sign_at_phase p m.at f) e;
    }
    at After e = record {
      number = later_by (pos (12 * (heights ps * heights ps) * ((2 ^ 33 * 2 ^ 33) * (2 ^ 33 * 2 ^ 33)) + 1)) (number_of m.at);
      sound = size.sound;
      positive = positive_product ordered_integers {a = (number_of m.at).divisor} {b = pos (12 * (heights ps * heights ps) * ((2 ^ 33 * 2 ^ 33) * (2 ^ 33 * 2 ^ 33)) + 1)} size.positive (some (12 * (heights ps * heights ps) * ((2 ^ 33 * 2 ^ 33) * (2 ^ 33 * 2 ^ 33))));
      each = λ p k.
          ap (λ (f : Phase). sign_at_phase p m.at f) e
          ∙ seat_later (number_of m.at) (2 ^ 33) (12 * (heights ps * heights ps) * ((2 ^ 33 * 2 ^ 33) * (2 ^ 33 * 2 ^ 33)) + 1) (heights ps) size (heights_some ps) (omega arith) p
          (own_height p (heights ps) (height_most ps p k)) (slope_height p (heights ps) (height_most ps p k));
    }
      where
        some : (n : ℕ) → sign_of (pos (n + 1)) ≡ Plus
        some n = let e : n + 1 ≡ suc n = omega arith in ap (λ k. sign_of (pos k)) e
