-- The laws of signs hold in every real scene.
use Rattle.std.proofs.Common.{◌≡◌, refl, ap, sym, ◌∙◌, subst, List, [], ◌∷◌, ℕ}
use Rattle.std.specs.Prelude.{ℤ, pos, ◌+ℤ◌, ◌-ℤ◌, ◌*ℤ◌, Option}
use lib.IntN.{neg_ℤ}
use Rattle.kin_algebra.proofs.Ring.{by_ring, quotes}
use Rattle.kin_algebra.proofs.Signs.{by_signs}
use Rattle.kin_num.specs.declared.instant.Moment.{Moment}
use Rattle.kin_num.specs.Quadratic.{Quadratic}
use Rattle.kin_num.specs.Canonical.{IsCanonical}
use Rattle.kin_algebra.specs.Signs.{opposite_of, SumMayBe}
use Rattle.kin_num.specs.Instants.{sign_at}
use Rattle.kin_num.proofs.SignLaws.{negated, sign_at-neg}
use Rattle.kin_num.proofs.InstantLaws.{quadratic_sum, sign_at-sum}
use Rattle.kin_motion.specs.declared.form.Form.{Form}
use Rattle.kin_motion.specs.declared.form.Form.TheVariants.{Line, Turn, Slope}
use Rattle.kin_motion.specs.Course.{Course}
use Rattle.kin_motion.specs.Forms.{x_of, y_of, polynomial_of, sign_of_form}
use Rattle.kin_motion.specs.Scene.{Scene, IsReal}
use Rattle.kin_motion.specs.Laws.{HasLineLaws, HasTurnLaws}
use Rattle.kin_motion.proofs.LineLaws.{sign_of_form-turned_line}

steps_add : (dx dy x y x' y' x'' y'' : ℤ) → dx *ℤ (x'' -ℤ x) +ℤ dy *ℤ (y'' -ℤ y) ≡ (dx *ℤ (x' -ℤ x) +ℤ dy *ℤ (y' -ℤ y)) +ℤ (dx *ℤ (x'' -ℤ x') +ℤ dy *ℤ (y'' -ℤ y'))
steps_add dx dy x y x' y' x'' y'' = by_ring (dx ∷ dy ∷ x ∷ y ∷ x' ∷ y' ∷ x'' ∷ y'' ∷ []) _ _ (search quotes depth 30 fits 20000) (search quotes depth 30 fits 20000) refl

steps_add_zero : (dx dy x y x' y' x'' y'' : ℤ) → dx *ℤ (x'' -ℤ x) +ℤ dy *ℤ (y'' -ℤ y) +ℤ pos 0 ≡ (dx *ℤ (x' -ℤ x) +ℤ dy *ℤ (y' -ℤ y) +ℤ pos 0) +ℤ (dx *ℤ (x'' -ℤ x') +ℤ dy *ℤ (y'' -ℤ y') +ℤ pos 0)
steps_add_zero dx dy x y x' y' x'' y'' = by_ring (dx ∷ dy ∷ x ∷ y ∷ x' ∷ y' ∷ x'' ∷ y'' ∷ []) _ _ (search quotes depth 30 fits 20000) (search quotes depth 30 fits 20000) refl

ways_add : (dx dy ex ey x y x' y' : ℤ) → (dx +ℤ ex) *ℤ (x' -ℤ x) +ℤ (dy +ℤ ey) *ℤ (y' -ℤ y) ≡ (dx *ℤ (x' -ℤ x) +ℤ dy *ℤ (y' -ℤ y)) +ℤ (ex *ℤ (x' -ℤ x) +ℤ ey *ℤ (y' -ℤ y))
ways_add dx dy ex ey x y x' y' = by_ring (dx ∷ dy ∷ ex ∷ ey ∷ x ∷ y ∷ x' ∷ y' ∷ []) _ _ (search quotes depth 30 fits 20000) (search quotes depth 30 fits 20000) refl

ways_add_zero : (dx dy ex ey x y x' y' : ℤ) → (dx +ℤ ex) *ℤ (x' -ℤ x) +ℤ (dy +ℤ ey) *ℤ (y' -ℤ y) +ℤ pos 0 ≡ (dx *ℤ (x' -ℤ x) +ℤ dy *ℤ (y' -ℤ y) +ℤ pos 0) +ℤ (ex *ℤ (x' -ℤ x) +ℤ ey *ℤ (y' -ℤ y) +ℤ pos 0)
ways_add_zero dx dy ex ey x y x' y' = by_ring (dx ∷ dy ∷ ex ∷ ey ∷ x ∷ y ∷ x' ∷ y' ∷ []) _ _ (search quotes depth 30 fits 20000) (search quotes depth 30 fits 20000) refl

chain_line : (ms : List (Option Course)) (dx dy : ℤ) (i j k : ℕ) → polynomial_of ms (Line dx dy (pos 0) i k) ≡ quadratic_sum (polynomial_of ms (Line dx dy (pos 0) i j)) (polynomial_of ms (Line dx dy (pos 0) j k))
unfolding polynomial_of
chain_line ms dx dy i j k =
    let first = steps_add dx dy (x_of ms i).slope (y_of ms i).slope (x_of ms j).slope (y_of ms j).slope (x_of ms k).slope (y_of ms k).slope in
    let second = steps_add_zero dx dy (x_of ms i).start (y_of ms i).start (x_of ms j).start (y_of ms j).start (x_of ms k).start (y_of ms k).start in
    λ t. record { a = pos 0; b = first t; c = second t }

direction_line : (ms : List (Option Course)) (dx dy ex ey : ℤ) (i j : ℕ) → polynomial_of ms (Line (dx +ℤ ex) (dy +ℤ ey) (pos 0) i j) ≡ quadratic_sum (polynomial_of ms (Line dx dy (pos 0) i j)) (polynomial_of ms (Line ex ey (pos 0) i j))
unfolding polynomial_of
direction_line ms dx dy ex ey i j =
    let first = ways_add dx dy ex ey (x_of ms i).slope (y_of ms i).slope (x_of ms j).slope (y_of ms j).slope in
    let second = ways_add_zero dx dy ex ey (x_of ms i).start (y_of ms i).start (x_of ms j).start (y_of ms j).start in
    λ t. record { a = pos 0; b = first t; c = second t }

pub line_sum : (ms : List (Option Course)) (m : Moment) → IsCanonical m.at → (f g h : Form) → polynomial_of ms h ≡ quadratic_sum (polynomial_of ms f) (polynomial_of ms g) → SumMayBe (sign_of_form ms f m) (sign_of_form ms g m) (sign_of_form ms h m)
unfolding sign_of_form
line_sum ms m c f g h e = subst (λ (p : Quadratic). SumMayBe (sign_at (polynomial_of ms f) m) (sign_at (polynomial_of ms g) m) (sign_at p m)) (sym e) (sign_at-sum (polynomial_of ms f) (polynomial_of ms g) m c)

pub real_line_laws : (s : Scene) → IsReal s → HasLineLaws s
real_line_laws s r = record {
  opposite = λ dx dy i j. r.sign (Line dx dy (pos 0) j i) ∙ sign_of_form-turned_line r.motions dx dy i j r.moment ∙ ap opposite_of (sym (r.sign (Line dx dy (pos 0) i j)));
  chain = λ dx dy i j k. by_signs (r.sign (Line dx dy (pos 0) i j)) (r.sign (Line dx dy (pos 0) j k)) (r.sign (Line dx dy (pos 0) i k)) (line_sum r.motions r.moment r.canonical _ _ _ (chain_line r.motions dx dy i j k));
  directions = λ dx dy ex ey i j. by_signs (r.sign (Line dx dy (pos 0) i j)) (r.sign (Line ex ey (pos 0) i j)) (r.sign (Line (dx +ℤ ex) (dy +ℤ ey) (pos 0) i j)) (line_sum r.motions r.moment r.canonical _ _ _ (direction_line r.motions dx dy ex ey i j));
}

-- ---- turns
exchanged_one : (a b c d : ℤ) → a *ℤ b -ℤ c *ℤ d ≡ neg_ℤ (d *ℤ c -ℤ b *ℤ a)
exchanged_one a b c d = by_ring (a ∷ b ∷ c ∷ d ∷ []) _ _ (search quotes depth 20) (search quotes depth 20) refl

exchanged_two : (a a' b b' c c' d d' : ℤ) → (a *ℤ b' +ℤ a' *ℤ b) -ℤ (c *ℤ d' +ℤ c' *ℤ d) ≡ neg_ℤ ((d *ℤ c' +ℤ d' *ℤ c) -ℤ (b *ℤ a' +ℤ b' *ℤ a))
exchanged_two a a' b b' c c' d d' = by_ring (a ∷ a' ∷ b ∷ b' ∷ c ∷ c' ∷ d ∷ d' ∷ []) _ _ (search quotes depth 30 fits 20000) (search quotes depth 30 fits 20000) refl

turn_exchanged : (ms : List (Option Course)) (i j k : ℕ) → polynomial_of ms (Turn i k j) ≡ negated (polynomial_of ms (Turn i j k))
unfolding polynomial_of
turn_exchanged ms i j k =
    let ps = (x_of ms k).slope -ℤ (x_of ms i).slope in
    let pt = (x_of ms k).start -ℤ (x_of ms i).start in
    let qs = (y_of ms j).slope -ℤ (y_of ms i).slope in
    let qt = (y_of ms j).start -ℤ (y_of ms i).start in
    let rs = (y_of ms k).slope -ℤ (y_of ms i).slope in
    let rt = (y_of ms k).start -ℤ (y_of ms i).start in
    let us = (x_of ms j).slope -ℤ (x_of ms i).slope in
    let ut = (x_of ms j).start -ℤ (x_of ms i).start in
    let first = exchanged_one ps qs rs us in
    let second = exchanged_two ps pt qs qt rs rt us ut in
    let third = exchanged_one pt qt rt ut in
    λ t. record { a = first t; b = second t; c = third t }

slope_one : (xi yi xj yj xk yk : ℤ) → (yj -ℤ yi) *ℤ (xk -ℤ xj) -ℤ (yk -ℤ yj) *ℤ (xj -ℤ xi) ≡ neg_ℤ ((xj -ℤ xi) *ℤ (yk -ℤ yi) -ℤ (yj -ℤ yi) *ℤ (xk -ℤ xi))
slope_one xi yi xj yj xk yk = by_ring (xi ∷ yi ∷ xj ∷ yj ∷ xk ∷ yk ∷ []) _ _ (search quotes depth 24 fits 20000) (search quotes depth 24 fits 20000) refl

slope_two : (xi yi xj yj xk yk ui vi uj vj uk vk : ℤ) →
    ((vj -ℤ vi) *ℤ (xk -ℤ xj) +ℤ (yj -ℤ yi) *ℤ (uk -ℤ uj)) -ℤ ((vk -ℤ vj) *ℤ (xj -ℤ xi) +ℤ (yk -ℤ yj) *ℤ (uj -ℤ ui))
    ≡ neg_ℤ (((uj -ℤ ui) *ℤ (yk -ℤ yi) +ℤ (xj -ℤ xi) *ℤ (vk -ℤ vi)) -ℤ ((vj -ℤ vi) *ℤ (xk -ℤ xi) +ℤ (yj -ℤ yi) *ℤ (uk -ℤ ui)))
slope_two xi yi xj yj xk yk ui vi uj vj uk vk =
    by_ring (xi ∷ yi ∷ xj ∷ yj ∷ xk ∷ yk ∷ ui ∷ vi ∷ uj ∷ vj ∷ uk ∷ vk ∷ []) _ _ (search quotes depth 34 fits 40000) (search quotes depth 34 fits 40000) refl

slope_of_turn : (ms : List (Option Course)) (i j k : ℕ) → polynomial_of ms (Slope i j j k) ≡ negated (polynomial_of ms (Turn i j k))
unfolding polynomial_of
slope_of_turn ms i j k =
    let first = slope_one (x_of ms i).slope (y_of ms i).slope (x_of ms j).slope (y_of ms j).slope (x_of ms k).slope (y_of ms k).slope in
    let second = slope_two (x_of ms i).start (y_of ms i).start (x_of ms j).start (y_of ms j).start (x_of ms k).start (y_of ms k).start (x_of ms i).slope (y_of ms i).slope (x_of ms j).slope (y_of ms j).slope (x_of ms k).slope (y_of ms k).slope in
    let third = slope_one (x_of ms i).start (y_of ms i).start (x_of ms j).start (y_of ms j).start (x_of ms k).start (y_of ms k).start in
    λ t. record { a = first t; b = second t; c = third t }

pub opposite_forms : (ms : List (Option Course)) (m : Moment) (f g : Form) → polynomial_of ms f ≡ negated (polynomial_of ms g) → sign_of_form ms f m ≡ opposite_of (sign_of_form ms g m)
unfolding sign_of_form
opposite_forms ms m f g e = ap (λ (p : Quadratic). sign_at p m) e ∙ sign_at-neg (polynomial_of ms g) m

pub real_turn_laws : (s : Scene) → IsReal s → HasTurnLaws s
real_turn_laws s r = record {
  exchanged = λ i j k. r.sign (Turn i k j) ∙ opposite_forms r.motions r.moment _ _ (turn_exchanged r.motions i j k) ∙ ap opposite_of (sym (r.sign (Turn i j k)));
  slope = λ i j k. r.sign (Slope i j j k) ∙ opposite_forms r.motions r.moment _ _ (slope_of_turn r.motions i j k) ∙ ap opposite_of (sym (r.sign (Turn i j k)));
}
