-- Where points are at the same places at an instant, each form has the same sign there.
use Rattle.std.proofs.Common.{◌≡◌, refl, sym, ap, ◌∙◌, subst, List, [], ◌∷◌, ℕ}
use Rattle.std.specs.Prelude.{ℤ, pos, ◌+ℤ◌, ◌-ℤ◌, ◌*ℤ◌, Option}
use lib.IntN.{neg_ℤ}
use Rattle.kin_algebra.proofs.Ring.{by_ring, quotes}
use Rattle.kin_algebra.specs.declared.sign.Sign.{Sign}
use Rattle.kin_algebra.specs.declared.sign.Sign.TheVariants.{Zero}
use Rattle.kin_algebra.specs.Signs.{opposite_of, product_of, SumMayBe}
use Rattle.kin_num.specs.declared.instant.Moment.{Moment}
use Rattle.kin_num.specs.Quadratic.{Quadratic, quadratic_sum, negated, linear, linear_product}
use Rattle.kin_num.specs.Instants.{sign_at}
use Rattle.kin_num.specs.Laws.{SignsAddAndMultiply}
use Rattle.kin_num.proofs.LawProofs.{sums_and_products}
use Rattle.kin_motion.specs.declared.form.Form.{Form}
use Rattle.kin_motion.specs.declared.form.Form.TheVariants.{Line, Turn, Slope, Dist}
use Rattle.kin_motion.specs.Course.{Course}
use Rattle.kin_motion.specs.Forms.{Linear, minus, product, difference, along, x_of, y_of, x_step, y_step, square_of_step, polynomial_of, sign_of_form}
use Rattle.kin_motion.specs.Turning.{just_at, SceneIsByPlaces}

zero_and : (t r : Sign) → t ≡ Zero → SumMayBe Zero t r → r ≡ Zero
zero_and t r e f = f ∙ e

pub sum_of_zeros : (s t r : Sign) → s ≡ Zero → t ≡ Zero → SumMayBe s t r → r ≡ Zero
sum_of_zeros s t r e f h = zero_and t r f (subst (λ x. SumMayBe x t r) e h)

-- ---- identities
sums_apart : (e p f q : ℤ) → (e +ℤ p) -ℤ (f +ℤ q) ≡ (e +ℤ neg_ℤ f) +ℤ (p -ℤ q)
sums_apart e p f q = by_ring (e ∷ p ∷ f ∷ q ∷ []) _ _ (search quotes depth 20) (search quotes depth 20) refl

sums_together : (e p f q : ℤ) → (e +ℤ p) +ℤ (f +ℤ q) ≡ (e +ℤ f) +ℤ (p +ℤ q)
sums_together e p f q = by_ring (e ∷ p ∷ f ∷ q ∷ []) _ _ (search quotes depth 20) (search quotes depth 20) refl

steps_apart : (a b a' b' : ℤ) → (a -ℤ b) -ℤ (a' -ℤ b') ≡ (a -ℤ a') +ℤ neg_ℤ (b -ℤ b')
steps_apart a b a' b' = by_ring (a ∷ b ∷ a' ∷ b' ∷ []) _ _ (search quotes depth 20) (search quotes depth 20) refl

outer : (a b a' b' : ℤ) → a *ℤ b ≡ ((a -ℤ a') *ℤ b +ℤ (b -ℤ b') *ℤ a') +ℤ a' *ℤ b'
outer a b a' b' = by_ring (a ∷ b ∷ a' ∷ b' ∷ []) _ _ (search quotes depth 20) (search quotes depth 20) refl

inner : (a b c e a' b' c' e' : ℤ) →
    a *ℤ e +ℤ b *ℤ c ≡ (((a -ℤ a') *ℤ e +ℤ (b -ℤ b') *ℤ c) +ℤ ((c -ℤ c') *ℤ b' +ℤ (e -ℤ e') *ℤ a')) +ℤ (a' *ℤ e' +ℤ b' *ℤ c')
inner a b c e a' b' c' e' = by_ring (a ∷ b ∷ c ∷ e ∷ a' ∷ b' ∷ c' ∷ e' ∷ []) _ _ (search quotes depth 30 fits 20000) (search quotes depth 30 fits 20000) refl

along_square : (x y : ℤ) → pos 0 ≡ (x *ℤ pos 0 +ℤ y *ℤ pos 0) +ℤ pos 0
along_square x y = by_ring (x ∷ y ∷ []) _ _ (search quotes depth 20) (search quotes depth 20) refl

along_slope : (dx dy x y x' y' z w : ℤ) → dx *ℤ x +ℤ dy *ℤ y ≡ (((x -ℤ x') *ℤ dx +ℤ z *ℤ pos 0) +ℤ ((y -ℤ y') *ℤ dy +ℤ w *ℤ pos 0)) +ℤ (dx *ℤ x' +ℤ dy *ℤ y')
along_slope dx dy x y x' y' z w = by_ring (dx ∷ dy ∷ x ∷ y ∷ x' ∷ y' ∷ z ∷ w ∷ []) _ _ (search quotes depth 30 fits 20000) (search quotes depth 30 fits 20000) refl

along_start : (dx dy off x y x' y' : ℤ) → dx *ℤ x +ℤ dy *ℤ y +ℤ off ≡ ((x -ℤ x') *ℤ dx +ℤ (y -ℤ y') *ℤ dy) +ℤ (dx *ℤ x' +ℤ dy *ℤ y' +ℤ off)
along_start dx dy off x y x' y' = by_ring (dx ∷ dy ∷ off ∷ x ∷ y ∷ x' ∷ y' ∷ []) _ _ (search quotes depth 30 fits 20000) (search quotes depth 30 fits 20000) refl

-- ---- polynomials that differ by one that is 0 at the moment
module _ (m : Moment) (laws : SignsAddAndMultiply m) where
  IsZero : Quadratic → Type 0
  IsZero p = sign_at p m ≡ Zero

  zero-sum : (p q : Quadratic) → IsZero p → IsZero q → IsZero (quadratic_sum p q)
  unfolding IsZero
  zero-sum p q e f = sum_of_zeros (sign_at p m) (sign_at q m) (sign_at (quadratic_sum p q) m) e f (laws.sum p q)

  zero-negated : (p : Quadratic) → IsZero p → IsZero (negated p)
  unfolding IsZero
  zero-negated p e = laws.negative p ∙ ap opposite_of e

  zero-product : (b c b' c' : ℤ) → IsZero (linear b c) → IsZero (linear_product b c b' c')
  unfolding IsZero
  zero-product b c b' c' e = laws.product b c b' c' ∙ ap (λ s. product_of s (sign_at (linear b' c') m)) e

  -- p is q and a polynomial that is 0
  AreSame : Quadratic → Quadratic → Type 0
  AreSame p q = (e : Quadratic) × IsZero e × (p ≡ quadratic_sum e q)

  same_sign : (p q : Quadratic) → AreSame p q → sign_at p m ≡ sign_at q m
  unfolding AreSame IsZero
  same_sign p q (e, zero, is) = ap (λ (r : Quadratic). sign_at r m) is ∙ at (sign_at e m) zero (laws.sum e q)
    where
      at : (s : Sign) → s ≡ Zero → SumMayBe s (sign_at q m) (sign_at (quadratic_sum e q) m) → sign_at (quadratic_sum e q) m ≡ sign_at q m
      at s none h = subst (λ x. SumMayBe x (sign_at q m) (sign_at (quadratic_sum e q) m)) none h

  same-difference : (p q p' q' : Quadratic) → AreSame p p' → AreSame q q' → AreSame (difference p q) (difference p' q')
  unfolding AreSame
  same-difference p q p' q' (e, zero, is) (f, none, here) =
      let a = sums_apart e.a p'.a f.a q'.a in
      let b = sums_apart e.b p'.b f.b q'.b in
      let c = sums_apart e.c p'.c f.c q'.c in
      (quadratic_sum e (negated f), zero-sum e (negated f) zero (zero-negated f none), (λ t. difference (is t) (here t)) ∙ (λ t. record { a = a t; b = b t; c = c t }))

  same-sum : (p q p' q' : Quadratic) → AreSame p p' → AreSame q q' → AreSame (quadratic_sum p q) (quadratic_sum p' q')
  unfolding AreSame
  same-sum p q p' q' (e, zero, is) (f, none, here) =
      let a = sums_together e.a p'.a f.a q'.a in
      let b = sums_together e.b p'.b f.b q'.b in
      let c = sums_together e.c p'.c f.c q'.c in
      (quadratic_sum e f, zero-sum e f zero none, (λ t. quadratic_sum (is t) (here t)) ∙ (λ t. record { a = a t; b = b t; c = c t }))

  -- two lines are equal at the moment
  AreLevel : Linear → Linear → Type 0
  AreLevel p q = IsZero (linear (p.slope -ℤ q.slope) (p.start -ℤ q.start))

  level-step : (p q p' q' : Linear) → AreLevel p p' → AreLevel q q' → AreLevel (minus p q) (minus p' q')
  unfolding AreLevel
  level-step p q p' q' e f =
      let b = steps_apart p.slope q.slope p'.slope q'.slope in
      let c = steps_apart p.start q.start p'.start q'.start in
      subst IsZero (sym (λ t. linear (b t) (c t)))
      (zero-sum (linear (p.slope -ℤ p'.slope) (p.start -ℤ p'.start)) (negated (linear (q.slope -ℤ q'.slope) (q.start -ℤ q'.start))) e (zero-negated _ f))

  same-product : (p q p' q' : Linear) → AreLevel p p' → AreLevel q q' → AreSame (product p q) (product p' q')
  unfolding AreLevel AreSame
  same-product p q p' q' e f =
      let first = linear_product (p.slope -ℤ p'.slope) (p.start -ℤ p'.start) q.slope q.start in
      let second = linear_product (q.slope -ℤ q'.slope) (q.start -ℤ q'.start) p'.slope p'.start in
      let a = outer p.slope q.slope p'.slope q'.slope in
      let b = inner p.slope p.start q.slope q.start p'.slope p'.start q'.slope q'.start in
      let c = outer p.start q.start p'.start q'.start in
      (quadratic_sum first second, zero-sum first second (zero-product _ _ q.slope q.start e) (zero-product _ _ p'.slope p'.start f), λ t. record { a = a t; b = b t; c = c t })

  same-along : (dx dy off : ℤ) (p q p' q' : Linear) → AreLevel p p' → AreLevel q q' → AreSame (along dx dy off p q) (along dx dy off p' q')
  unfolding AreLevel AreSame
  same-along dx dy off p q p' q' e f =
      let first = linear_product (p.slope -ℤ p'.slope) (p.start -ℤ p'.start) (pos 0) dx in
      let second = linear_product (q.slope -ℤ q'.slope) (q.start -ℤ q'.start) (pos 0) dy in
      let a = along_square (p.slope -ℤ p'.slope) (q.slope -ℤ q'.slope) in
      let b = along_slope dx dy p.slope q.slope p'.slope q'.slope (p.start -ℤ p'.start) (q.start -ℤ q'.start) in
      let c = along_start dx dy off p.start q.start p'.start q'.start in
      (quadratic_sum first second, zero-sum first second (zero-product _ _ (pos 0) dx e) (zero-product _ _ (pos 0) dy f), λ t. record { a = a t; b = b t; c = c t })

  module _ (before after : List (Option Course)) (x : (i : ℕ) → AreLevel (x_of before i) (x_of after i)) (y : (i : ℕ) → AreLevel (y_of before i) (y_of after i)) where
    x_steps : (i j : ℕ) → AreLevel (x_step before i j) (x_step after i j)
    x_steps i j = level-step (x_of before j) (x_of before i) (x_of after j) (x_of after i) (x j) (x i)

    y_steps : (i j : ℕ) → AreLevel (y_step before i j) (y_step after i j)
    y_steps i j = level-step (y_of before j) (y_of before i) (y_of after j) (y_of after i) (y j) (y i)

    squares : (i j : ℕ) → AreSame (square_of_step before i j) (square_of_step after i j)
    squares i j = same-sum _ _ _ _ (same-product _ _ _ _ (x_steps i j) (x_steps i j)) (same-product _ _ _ _ (y_steps i j) (y_steps i j))

    same-polynomial : (f : Form) → AreSame (polynomial_of before f) (polynomial_of after f)
    unfolding polynomial_of
    same-polynomial (Line dx dy off i j) = same-along dx dy off _ _ _ _ (x_steps i j) (y_steps i j)
    same-polynomial (Turn i j k) = same-difference _ _ _ _ (same-product _ _ _ _ (x_steps i j) (y_steps i k)) (same-product _ _ _ _ (y_steps i j) (x_steps i k))
    same-polynomial (Slope i j k l) = same-difference _ _ _ _ (same-product _ _ _ _ (y_steps i j) (x_steps k l)) (same-product _ _ _ _ (y_steps k l) (x_steps i j))
    same-polynomial (Dist i j k l) = same-difference _ _ _ _ (squares k l) (squares i j)

    same_form : (f : Form) → sign_of_form before f m ≡ sign_of_form after f m
    unfolding sign_of_form
    same_form f = same_sign _ _ (same-polynomial f)

-- ---- at an instant
pub scene_is_by_places : SceneIsByPlaces
unfolding AreLevel IsZero sign_at
scene_is_by_places w before after canonical live places =
    let laws = sums_and_products (just_at w) canonical.form in
    let sign = same_form (just_at w) laws before after places.x places.y in
    λ t. record { live = live t; sign = λ f. sign f t }
