use Rattle.std.proofs.Common.{◌≡◌, refl, ap, ◌∙◌, List, [], ◌∷◌, ℕ}
use Rattle.std.specs.Prelude.{ℤ, pos, ◌+ℤ◌, ◌-ℤ◌, ◌*ℤ◌, Option}
use lib.IntN.{neg_ℤ}
use Rattle.kin_algebra.proofs.Ring.{by_ring, quotes}
use Rattle.kin_num.specs.declared.instant.Moment.{Moment}
use Rattle.kin_num.specs.Quadratic.{Quadratic}
use Rattle.kin_algebra.specs.Signs.{opposite_of}
use Rattle.kin_num.specs.Instants.{sign_at}
use Rattle.kin_num.proofs.SignLaws.{negated, sign_at-neg}
use Rattle.kin_motion.specs.declared.form.Form.TheVariants.{Line}
use Rattle.kin_motion.specs.Course.{Course}
use Rattle.kin_motion.specs.Forms.{x_of, y_of, polynomial_of, sign_of_form}

part : (dx dy x x' y y' : ℤ) → dx *ℤ (x -ℤ x') +ℤ dy *ℤ (y -ℤ y') ≡ neg_ℤ (dx *ℤ (x' -ℤ x) +ℤ dy *ℤ (y' -ℤ y))
part dx dy x x' y y' = by_ring (dx ∷ dy ∷ x ∷ x' ∷ y ∷ y' ∷ []) _ _ (search quotes depth 20 fits 20000) (search quotes depth 20 fits 20000) refl

part_zero : (dx dy x x' y y' : ℤ) → dx *ℤ (x -ℤ x') +ℤ dy *ℤ (y -ℤ y') +ℤ pos 0 ≡ neg_ℤ (dx *ℤ (x' -ℤ x) +ℤ dy *ℤ (y' -ℤ y) +ℤ pos 0)
part_zero dx dy x x' y y' = by_ring (dx ∷ dy ∷ x ∷ x' ∷ y ∷ y' ∷ []) _ _ (search quotes depth 20 fits 20000) (search quotes depth 20 fits 20000) refl

polynomial_of-turned_line : (ms : List (Option Course)) (dx dy : ℤ) (i j : ℕ) → polynomial_of ms (Line dx dy (pos 0) j i) ≡ negated (polynomial_of ms (Line dx dy (pos 0) i j))
unfolding polynomial_of
polynomial_of-turned_line ms dx dy i j =
    let first = part dx dy (x_of ms i).slope (x_of ms j).slope (y_of ms i).slope (y_of ms j).slope in
    let second = part_zero dx dy (x_of ms i).start (x_of ms j).start (y_of ms i).start (y_of ms j).start in
    λ t. record { a = pos 0; b = first t; c = second t }

-- the line from j to i is the negative of that from i to j
pub sign_of_form-turned_line : (ms : List (Option Course)) (dx dy : ℤ) (i j : ℕ) (m : Moment) → sign_of_form ms (Line dx dy (pos 0) j i) m ≡ opposite_of (sign_of_form ms (Line dx dy (pos 0) i j) m)
unfolding sign_of_form
sign_of_form-turned_line ms dx dy i j m =
    ap (λ (p : Quadratic). sign_at p m) (polynomial_of-turned_line ms dx dy i j) ∙ sign_at-neg (polynomial_of ms (Line dx dy (pos 0) i j)) m
