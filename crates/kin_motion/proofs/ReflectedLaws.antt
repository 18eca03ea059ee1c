-- `reflected` shows what is seen of the motions with every y and v negated.
use Rattle.std.proofs.Common.{◌≡◌, refl, ap, sym, ◌∙◌, List, [], ◌∷◌, ℕ, zero, suc, ◌+◌}
use Rattle.std.specs.Prelude.{ℤ, pos, ◌+ℤ◌, ◌-ℤ◌, ◌*ℤ◌, Option, Some, None}
use lib.IntN.{neg_ℤ}
use Rattle.kin_algebra.proofs.Ring.{by_ring, quotes}
use Rattle.kin_num.specs.declared.instant.Moment.{Moment}
use Rattle.kin_num.specs.Quadratic.{Quadratic}
use Rattle.kin_algebra.specs.Signs.{opposite_of}
use Rattle.kin_num.specs.Instants.{sign_at}
use Rattle.kin_num.proofs.SignLaws.{negated, sign_at-neg}
use Rattle.kin_motion.specs.declared.form.Form.{Form}
use Rattle.kin_motion.specs.declared.form.Form.TheVariants.{Line, Turn, Slope, Dist}
use Rattle.kin_motion.specs.Course.{Course, motion_of}
use Rattle.kin_motion.specs.Forms.{Linear, difference, x_of, y_of, x_of_course, y_of_course, square_of_step, polynomial_of, sign_of_form}
use Rattle.kin_motion.specs.Numbers.{filled_from}
use Rattle.kin_motion.specs.Scene.{Scene, IsReal, reflected, reflected_sign, scene_at}
use Rattle.kin_motion.specs.Mirrored.{mirrored, mirrored_course}

motion_of-mirrored : (ms : List (Option Course)) (i : ℕ) → motion_of (mirrored ms) i ≡ mirrored_course (motion_of ms i)
motion_of-mirrored [] i = refl
motion_of-mirrored (m ∷ ms) zero = refl
motion_of-mirrored (m ∷ ms) (suc i) = motion_of-mirrored ms i

negated_line : Linear → Linear
negated_line p = record { slope = neg_ℤ p.slope; start = neg_ℤ p.start }

x_of_course-mirrored : (c : Option Course) → x_of_course (mirrored_course c) ≡ x_of_course c
x_of_course-mirrored (Some c) = refl
x_of_course-mirrored None = refl

y_of_course-mirrored : (c : Option Course) → y_of_course (mirrored_course c) ≡ negated_line (y_of_course c)
unfolding negated_line
y_of_course-mirrored (Some c) = refl
y_of_course-mirrored None = refl

x_of-mirrored : (ms : List (Option Course)) (i : ℕ) → x_of (mirrored ms) i ≡ x_of ms i
x_of-mirrored ms i = ap x_of_course (motion_of-mirrored ms i) ∙ x_of_course-mirrored (motion_of ms i)

y_of-mirrored : (ms : List (Option Course)) (i : ℕ) → y_of (mirrored ms) i ≡ negated_line (y_of ms i)
y_of-mirrored ms i = ap y_of_course (motion_of-mirrored ms i) ∙ y_of_course-mirrored (motion_of ms i)

part : (dx dy x y z : ℤ) → dx *ℤ x +ℤ dy *ℤ (neg_ℤ y -ℤ neg_ℤ z) ≡ dx *ℤ x +ℤ neg_ℤ dy *ℤ (y -ℤ z)
part dx dy x y z = by_ring (dx ∷ dy ∷ x ∷ y ∷ z ∷ []) _ _ (search quotes depth 20) (search quotes depth 20) refl

across : (p q r s t u : ℤ) → p *ℤ (neg_ℤ q -ℤ neg_ℤ r) -ℤ (neg_ℤ s -ℤ neg_ℤ t) *ℤ u ≡ neg_ℤ (p *ℤ (q -ℤ r) -ℤ (s -ℤ t) *ℤ u)
across p q r s t u = by_ring (p ∷ q ∷ r ∷ s ∷ t ∷ u ∷ []) _ _ (search quotes depth 20) (search quotes depth 20) refl

across_two : (p p' q q' r r' s s' t t' u u' : ℤ) →
    (p *ℤ (neg_ℤ q' -ℤ neg_ℤ r') +ℤ p' *ℤ (neg_ℤ q -ℤ neg_ℤ r)) -ℤ ((neg_ℤ s -ℤ neg_ℤ t) *ℤ u' +ℤ (neg_ℤ s' -ℤ neg_ℤ t') *ℤ u)
    ≡ neg_ℤ ((p *ℤ (q' -ℤ r') +ℤ p' *ℤ (q -ℤ r)) -ℤ ((s -ℤ t) *ℤ u' +ℤ (s' -ℤ t') *ℤ u))
across_two p p' q q' r r' s s' t t' u u' =
    by_ring (p ∷ p' ∷ q ∷ q' ∷ r ∷ r' ∷ s ∷ s' ∷ t ∷ t' ∷ u ∷ u' ∷ []) _ _ (search quotes depth 30 fits 20000) (search quotes depth 30 fits 20000) refl

pub polynomial_of-mirrored_line : (ms : List (Option Course)) (dx dy off : ℤ) (i j : ℕ) → polynomial_of (mirrored ms) (Line dx dy off i j) ≡ polynomial_of ms (Line dx (neg_ℤ dy) off i j)
unfolding polynomial_of negated_line
polynomial_of-mirrored_line ms dx dy off i j =
    rw (x_of-mirrored ms i, x_of-mirrored ms j, y_of-mirrored ms i, y_of-mirrored ms j)
    (ap (λ (z : ℤ). record { a = pos 0; b = z; c = dx *ℤ ((x_of ms j).start -ℤ (x_of ms i).start) +ℤ dy *ℤ (neg_ℤ (y_of ms j).start -ℤ neg_ℤ (y_of ms i).start) +ℤ off })
    (part dx dy ((x_of ms j).slope -ℤ (x_of ms i).slope) (y_of ms j).slope (y_of ms i).slope)
    ∙ ap (λ (z : ℤ). record { a = pos 0; b = dx *ℤ ((x_of ms j).slope -ℤ (x_of ms i).slope) +ℤ neg_ℤ dy *ℤ ((y_of ms j).slope -ℤ (y_of ms i).slope); c = z +ℤ off })
    (part dx dy ((x_of ms j).start -ℤ (x_of ms i).start) (y_of ms j).start (y_of ms i).start))

pub polynomial_of-mirrored_turn : (ms : List (Option Course)) (i j k : ℕ) → polynomial_of (mirrored ms) (Turn i j k) ≡ negated (polynomial_of ms (Turn i j k))
unfolding polynomial_of negated_line
polynomial_of-mirrored_turn ms i j k =
    let xi = x_of ms i in
    let xj = x_of ms j in
    let xk = x_of ms k in
    let yi = y_of ms i in
    let yj = y_of ms j in
    let yk = y_of ms k in
    let first = across (xj.slope -ℤ xi.slope) yk.slope yi.slope yj.slope yi.slope (xk.slope -ℤ xi.slope) in
    let second = across_two (xj.slope -ℤ xi.slope) (xj.start -ℤ xi.start) yk.slope yk.start yi.slope yi.start yj.slope yj.start yi.slope yi.start (xk.slope -ℤ xi.slope) (xk.start -ℤ xi.start) in
    let third = across (xj.start -ℤ xi.start) yk.start yi.start yj.start yi.start (xk.start -ℤ xi.start) in
    rw (x_of-mirrored ms i, x_of-mirrored ms j, x_of-mirrored ms k, y_of-mirrored ms i, y_of-mirrored ms j, y_of-mirrored ms k)
    (λ t. record { a = first t; b = second t; c = third t })

across_back : (p q r s t u : ℤ) → (neg_ℤ q -ℤ neg_ℤ r) *ℤ p -ℤ (neg_ℤ s -ℤ neg_ℤ t) *ℤ u ≡ neg_ℤ ((q -ℤ r) *ℤ p -ℤ (s -ℤ t) *ℤ u)
across_back p q r s t u = by_ring (p ∷ q ∷ r ∷ s ∷ t ∷ u ∷ []) _ _ (search quotes depth 20) (search quotes depth 20) refl

across_back_two : (p p' q q' r r' s s' t t' u u' : ℤ) →
    ((neg_ℤ q -ℤ neg_ℤ r) *ℤ p' +ℤ (neg_ℤ q' -ℤ neg_ℤ r') *ℤ p) -ℤ ((neg_ℤ s -ℤ neg_ℤ t) *ℤ u' +ℤ (neg_ℤ s' -ℤ neg_ℤ t') *ℤ u)
    ≡ neg_ℤ (((q -ℤ r) *ℤ p' +ℤ (q' -ℤ r') *ℤ p) -ℤ ((s -ℤ t) *ℤ u' +ℤ (s' -ℤ t') *ℤ u))
across_back_two p p' q q' r r' s s' t t' u u' =
    by_ring (p ∷ p' ∷ q ∷ q' ∷ r ∷ r' ∷ s ∷ s' ∷ t ∷ t' ∷ u ∷ u' ∷ []) _ _ (search quotes depth 30 fits 20000) (search quotes depth 30 fits 20000) refl

pub polynomial_of-mirrored_slope : (ms : List (Option Course)) (i j k l : ℕ) → polynomial_of (mirrored ms) (Slope i j k l) ≡ negated (polynomial_of ms (Slope i j k l))
unfolding polynomial_of negated_line
polynomial_of-mirrored_slope ms i j k l =
    let xi = x_of ms i in
    let xj = x_of ms j in
    let xk = x_of ms k in
    let xl = x_of ms l in
    let yi = y_of ms i in
    let yj = y_of ms j in
    let yk = y_of ms k in
    let yl = y_of ms l in
    let first = across_back (xl.slope -ℤ xk.slope) yj.slope yi.slope yl.slope yk.slope (xj.slope -ℤ xi.slope) in
    let second = across_back_two (xl.slope -ℤ xk.slope) (xl.start -ℤ xk.start) yj.slope yj.start yi.slope yi.start yl.slope yl.start yk.slope yk.start (xj.slope -ℤ xi.slope) (xj.start -ℤ xi.start) in
    let third = across_back (xl.start -ℤ xk.start) yj.start yi.start yl.start yk.start (xj.start -ℤ xi.start) in
    rw (x_of-mirrored ms i, x_of-mirrored ms j, x_of-mirrored ms k, x_of-mirrored ms l, y_of-mirrored ms i, y_of-mirrored ms j, y_of-mirrored ms k, y_of-mirrored ms l)
    (λ t. record { a = first t; b = second t; c = third t })

square : (x q r : ℤ) → x +ℤ (neg_ℤ q -ℤ neg_ℤ r) *ℤ (neg_ℤ q -ℤ neg_ℤ r) ≡ x +ℤ (q -ℤ r) *ℤ (q -ℤ r)
square x q r = by_ring (x ∷ q ∷ r ∷ []) _ _ (search quotes depth 20) (search quotes depth 20) refl

square_two : (x q r q' r' : ℤ) → x +ℤ ((neg_ℤ q -ℤ neg_ℤ r) *ℤ (neg_ℤ q' -ℤ neg_ℤ r') +ℤ (neg_ℤ q' -ℤ neg_ℤ r') *ℤ (neg_ℤ q -ℤ neg_ℤ r)) ≡ x +ℤ ((q -ℤ r) *ℤ (q' -ℤ r') +ℤ (q' -ℤ r') *ℤ (q -ℤ r))
square_two x q r q' r' = by_ring (x ∷ q ∷ r ∷ q' ∷ r' ∷ []) _ _ (search quotes depth 20) (search quotes depth 20) refl

square_of_step-mirrored : (ms : List (Option Course)) (i j : ℕ) → square_of_step (mirrored ms) i j ≡ square_of_step ms i j
unfolding negated_line
square_of_step-mirrored ms i j =
    let xs = (x_of ms j).slope -ℤ (x_of ms i).slope in
    let xt = (x_of ms j).start -ℤ (x_of ms i).start in
    let yi = y_of ms i in
    let yj = y_of ms j in
    let first = square (xs *ℤ xs) yj.slope yi.slope in
    let second = square_two (xs *ℤ xt +ℤ xt *ℤ xs) yj.slope yi.slope yj.start yi.start in
    let third = square (xt *ℤ xt) yj.start yi.start in
    rw (x_of-mirrored ms i, x_of-mirrored ms j, y_of-mirrored ms i, y_of-mirrored ms j)
    (λ t. record { a = first t; b = second t; c = third t })

pub polynomial_of-mirrored_dist : (ms : List (Option Course)) (i j k l : ℕ) → polynomial_of (mirrored ms) (Dist i j k l) ≡ polynomial_of ms (Dist i j k l)
unfolding polynomial_of
polynomial_of-mirrored_dist ms i j k l =
    ap (λ (q : Quadratic). difference q (square_of_step (mirrored ms) i j)) (square_of_step-mirrored ms k l)
    ∙ ap (λ (q : Quadratic). difference (square_of_step ms k l) q) (square_of_step-mirrored ms i j)

-- the signs of the motions with y turned round, form by form
pub sign_of_form-mirrored : (ms : List (Option Course)) (m : Moment) (f : Form) → sign_of_form (mirrored ms) f m ≡ reflected_sign (scene_at ms m) f
unfolding sign_of_form
sign_of_form-mirrored ms m (Line dx dy off i j) = ap (λ (p : Quadratic). sign_at p m) (polynomial_of-mirrored_line ms dx dy off i j)
sign_of_form-mirrored ms m (Turn i j k) = ap (λ (p : Quadratic). sign_at p m) (polynomial_of-mirrored_turn ms i j k) ∙ sign_at-neg (polynomial_of ms (Turn i j k)) m
sign_of_form-mirrored ms m (Slope i j k l) = ap (λ (p : Quadratic). sign_at p m) (polynomial_of-mirrored_slope ms i j k l) ∙ sign_at-neg (polynomial_of ms (Slope i j k l)) m
sign_of_form-mirrored ms m (Dist i j k l) = ap (λ (p : Quadratic). sign_at p m) (polynomial_of-mirrored_dist ms i j k l)

live-mirrored : (n : ℕ) (ms : List (Option Course)) → filled_from n (mirrored ms) ≡ filled_from n ms
live-mirrored n [] = refl
live-mirrored n (Some c ∷ ms) = ap (λ xs. n ∷ xs) (live-mirrored (n + 1) ms)
live-mirrored n (None ∷ ms) = live-mirrored (n + 1) ms

-- the reflected scene of a real scene is real
pub reflected-real : (s : Scene) → IsReal s → IsReal (reflected s)
reflected-real s r = record {
  motions = mirrored r.motions;
  moment = r.moment;
  canonical = r.canonical;
  live = r.live ∙ sym (live-mirrored 0 r.motions);
  sign = λ f. reflected_same f ∙ sym (sign_of_form-mirrored r.motions r.moment f);
}
  where
    reflected_same : (f : Form) → reflected_sign s f ≡ reflected_sign (scene_at r.motions r.moment) f
    reflected_same (Line dx dy off i j) = r.sign (Line dx (neg_ℤ dy) off i j)
    reflected_same (Turn i j k) = ap opposite_of (r.sign (Turn i j k))
    reflected_same (Slope i j k l) = ap opposite_of (r.sign (Slope i j k l))
    reflected_same (Dist i j k l) = r.sign (Dist i j k l)
