-- Steepness goes through: of three steps to the right, the sign of the first against the third is that of a sum.
use Rattle.std.proofs.Common.{◌≡◌, refl, sym, ap, ◌∙◌, List, [], ◌∷◌, ℕ}
use Rattle.std.specs.Prelude.{pos, Option, Contains}
use Rattle.kin_algebra.proofs.Members.{contains_from_get}
use Rattle.kin_algebra.proofs.Magnitudes.{difference-turned}
use Rattle.kin_algebra.specs.declared.sign.Sign.TheVariants.{Plus}
use Rattle.kin_algebra.specs.Signs.{opposite_of, SumMayBe}
use Rattle.kin_algebra.proofs.OrderedRings.{OrderedRing}
use Rattle.kin_algebra.proofs.Pairs.{Pair}
use Rattle.kin_num.specs.Quadratic.{Quadratic}
use Rattle.kin_num.specs.Instants.{sign_at_number}
use Rattle.kin_num.proofs.Values.{negated}
use Rattle.kin_num.proofs.NumberRing.{ring_over}
use Rattle.kin_motion.specs.declared.form.Form.{Form}
use Rattle.kin_motion.specs.declared.form.Form.TheVariants.{Line, Slope}
use Rattle.kin_motion.specs.Course.{Course}
use Rattle.kin_motion.specs.Forms.{product, x_step, y_step, polynomial_of, sign_of_form}
use Rattle.kin_motion.specs.Scene.{Scene, IsReal, x_sign}
use Rattle.kin_motion.specs.Laws.{HasSlopeLaws}
use Rattle.kin_motion.proofs.SeenLaws.{SeenAt, seen_at}
use Rattle.kin_algebra.proofs.Signs.{by_signs}
use Rattle.kin_algebra.proofs.Vectors.{Vector, cross, cross_through}
use Rattle.kin_motion.proofs.LineValues.{step_at, x_sign-value, products-value}
use Rattle.kin_motion.proofs.RealLaws.{opposite_forms}

-- ---- in a scene
module _ (s : Scene) (r : IsReal s) (i j k l m n : ℕ) where
  abbrev ms : List (Option Course)
  ms = r.motions

  abbrev x_form : ℕ → ℕ → Form
  x_form a b = Line (pos 1) (pos 0) (pos 0) a b

  -- the six polynomials of the law
  abbrev six : List Quadratic
  six = polynomial_of ms (x_form i j) ∷ polynomial_of ms (x_form k l) ∷ polynomial_of ms (x_form m n) ∷ polynomial_of ms (Slope i j k l) ∷ polynomial_of ms (Slope k l m n) ∷ polynomial_of ms (Slope i j m n) ∷ []

  seen : SeenAt r.moment six
  seen = seen_at r.moment six r.canonical

  abbrev here : OrderedRing Pair
  here = ring_over (seen).number.radicand (seen).sound

  sign-here : (f : Form) → Contains six (polynomial_of ms f) → s.sign f ≡ sign_at_number (polynomial_of ms f) (seen).number
  unfolding sign_of_form
  sign-here f c = r.sign f ∙ (seen).each (polynomial_of ms f) c

  -- the step from a to b
  abbrev V : ℕ → ℕ → Vector Pair
  V a b = step_at (seen).number (seen).sound (seen).positive (x_step ms a b) (y_step ms a b)

  x-here : (a b : ℕ) → Contains six (polynomial_of ms (x_form a b)) → s.sign (x_form a b) ≡ here.sign (V a b).x
  unfolding polynomial_of
  x-here a b c = sign-here (x_form a b) c ∙ x_sign-value (seen).number (seen).sound (seen).positive (x_step ms a b) (y_step ms a b)

  slope-here : (a b c e : ℕ) → Contains six (polynomial_of ms (Slope a b c e)) → s.sign (Slope a b c e) ≡ here.sign (cross here (V c e) (V a b))
  unfolding polynomial_of cross
  slope-here a b c e h =
      sign-here (Slope a b c e) h
      ∙ products-value (seen).number (seen).sound (seen).positive (y_step ms a b) (x_step ms c e) (y_step ms c e) (x_step ms a b)
      ∙ ap (λ (z : Pair). here.sign (here.ring.plus z (here.ring.negative (here.ring.times (V c e).y (V a b).x)))) (here.ring.times_comm (V a b).y (V c e).x)

  slope_through : x_sign s i j ≡ Plus → x_sign s k l ≡ Plus → x_sign s m n ≡ Plus → SumMayBe (s.sign (Slope i j k l)) (s.sign (Slope k l m n)) (s.sign (Slope i j m n))
  slope_through e f g =
      by_signs (slope-here i j k l (contains_from_get six 3 _ refl)) (slope-here k l m n (contains_from_get six 4 _ refl)) (slope-here i j m n (contains_from_get six 5 _ refl))
      (cross_through here (V m n) (V k l) (V i j) (sym (x-here m n (contains_from_get six 2 _ refl)) ∙ g) (sym (x-here k l (contains_from_get six 1 _ refl)) ∙ f) (sym (x-here i j (contains_from_get six 0 _ refl)) ∙ e))

opposite_slope : (ms : List (Option Course)) (i j k l : ℕ) → polynomial_of ms (Slope k l i j) ≡ negated (polynomial_of ms (Slope i j k l))
unfolding polynomial_of
opposite_slope ms i j k l =
    let p = product (y_step ms k l) (x_step ms i j) in
    let q = product (y_step ms i j) (x_step ms k l) in
    let f = difference-turned p.a q.a in
    let g = difference-turned p.b q.b in
    let h = difference-turned p.c q.c in
    λ t. record { a = f t; b = g t; c = h t }

pub real_slope_laws : (s : Scene) → IsReal s → HasSlopeLaws s
real_slope_laws s r = record {
  opposite = λ i j k l. r.sign (Slope k l i j) ∙ opposite_forms r.motions r.moment _ _ (opposite_slope r.motions i j k l) ∙ ap opposite_of (sym (r.sign (Slope i j k l)));
  through = slope_through s r;
}
