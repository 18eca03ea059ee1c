-- A pair is as far apart the other way round.
use Rattle.std.proofs.Common.{◌≡◌, [], ◌∷◌, refl, sym, ap, ◌∙◌, ℕ, List}
use Rattle.std.specs.Prelude.{ℤ, ◌-ℤ◌, ◌+ℤ◌, ◌*ℤ◌, Option}
use Rattle.kin_algebra.proofs.Ring.{by_ring, quotes}
use Rattle.kin_num.specs.Quadratic.{Quadratic}
use Rattle.kin_num.specs.Instants.{sign_at}
use Rattle.kin_motion.specs.declared.form.Form.{Form}
use Rattle.kin_motion.specs.declared.form.Form.TheVariants.{Dist}
use Rattle.kin_motion.specs.Course.{Course}
use Rattle.kin_motion.specs.Forms.{Linear, minus, product, difference, square_of_step, polynomial_of, sign_of_form, x_of, y_of}
use Rattle.kin_motion.specs.Scene.{Scene, IsReal}
use Rattle.kin_num.specs.Quadratic.{quadratic_sum}

square_turned : (p q : Linear) → product (minus p q) (minus p q) ≡ product (minus q p) (minus q p)
square_turned p q =
    let f = one p.slope q.slope in
    let g = both p.slope q.slope p.start q.start in
    let h = one p.start q.start in
    λ t. record { a = f t; b = g t; c = h t }
  where
    one : (a b : ℤ) → (a -ℤ b) *ℤ (a -ℤ b) ≡ (b -ℤ a) *ℤ (b -ℤ a)
    one a b = by_ring (a ∷ b ∷ []) _ _ (search quotes depth 20) (search quotes depth 20) refl

    both : (a b c d : ℤ) → (a -ℤ b) *ℤ (c -ℤ d) +ℤ (c -ℤ d) *ℤ (a -ℤ b) ≡ (b -ℤ a) *ℤ (d -ℤ c) +ℤ (d -ℤ c) *ℤ (b -ℤ a)
    both a b c d = by_ring (a ∷ b ∷ c ∷ d ∷ []) _ _ (search quotes depth 20) (search quotes depth 20) refl

step_turned : (ms : List (Option Course)) (i j : ℕ) → square_of_step ms i j ≡ square_of_step ms j i
step_turned ms i j = λ t. quadratic_sum (square_turned (x_of ms j) (x_of ms i) t) (square_turned (y_of ms j) (y_of ms i) t)

module _ (s : Scene) (r : IsReal s) where
  same_form : (f g : Form) → polynomial_of r.motions f ≡ polynomial_of r.motions g → s.sign f ≡ s.sign g
  unfolding sign_of_form
  same_form f g e = r.sign f ∙ ap (λ (p : Quadratic). sign_at p r.moment) e ∙ sym (r.sign g)

  pub left_turned : (i j k l : ℕ) → s.sign (Dist i j k l) ≡ s.sign (Dist j i k l)
  unfolding polynomial_of
  left_turned i j k l = same_form (Dist i j k l) (Dist j i k l) (ap (difference (square_of_step r.motions k l)) (step_turned r.motions i j))

  pub right_turned : (i j k l : ℕ) → s.sign (Dist i j k l) ≡ s.sign (Dist i j l k)
  unfolding polynomial_of
  right_turned i j k l = same_form (Dist i j k l) (Dist i j l k) (ap (λ p. difference p (square_of_step r.motions i j)) (step_turned r.motions k l))
