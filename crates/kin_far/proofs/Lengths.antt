-- Steps compared by length, and how far they go along a vector, over an ordered ring.
use Rattle.std.proofs.Common.{◌≡◌, inl, inr, [], ◌∷◌, ℕ, refl, sym, ap, ◌∙◌}
use Rattle.kin_algebra.specs.declared.sign.Sign.{Sign}
use Rattle.kin_algebra.specs.declared.sign.Sign.TheVariants.{Zero, Plus}
use Rattle.kin_algebra.specs.Signs.{opposite_of, product_of}
use Rattle.kin_algebra.proofs.Operations.{operations}
use Rattle.kin_algebra.proofs.Ring.{by_identity, quotes_in}
use Rattle.kin_algebra.proofs.Signs.{AtLeast, product-Zero, square_none, opposite-opposite}
use Rattle.kin_algebra.proofs.OrderedRings.{OrderedRing, scale, nonnegative_sum, sign_square, sum_zero}
use Rattle.kin_algebra.proofs.Vectors.{Vector, cross}
use Rattle.kin_motion.proofs.DistanceValues.{square}
use Rattle.kin_chain.proofs.Comparisons.{way, Level}
use Rattle.kin_chain.proofs.Planes.{Places, step}

module _ {R : Type 0} (o : OrderedRing R) where
  open operations o.ring use {◌·◌, ◌⊕◌, ◌⊖◌}

  -- how far b goes along a, in the measure of a
  unfoldable pub dot : Vector R → Vector R → R
  dot a b = (a.x · b.x) ⊕ (a.y · b.y)

  -- ---- identities
  bent : (u v w : Vector R) → u.y · cross o v w ≡ (v.x · dot u w) ⊖ (w.x · dot u v)
  unfolding cross dot
  bent u v w = by_identity o.ring (u.x ∷ u.y ∷ v.x ∷ v.y ∷ w.x ∷ w.y ∷ []) _ _ (search quotes_in depth 30 fits 40000) (search quotes_in depth 30 fits 40000) refl

  less_turned : (a b : R) → b ⊖ a ≡ o.ring.negative (a ⊖ b)
  less_turned a b = by_identity o.ring (a ∷ b ∷ []) _ _ (search quotes_in depth 20) (search quotes_in depth 20) refl

  -- ---- signs
  times_none : (a : R) {b : R} → o.sign b ≡ Zero → o.sign (a · b) ≡ Zero
  times_none a {b} e = o.sign_times a b ∙ ap (product_of (o.sign a)) e ∙ product-Zero (o.sign a)

  none_times : {a : R} (b : R) → o.sign a ≡ Zero → o.sign (a · b) ≡ Zero
  none_times {a} b e = ap o.sign (o.ring.times_comm a b) ∙ times_none b e

  pub difference_turned : (a b : R) → o.sign (b ⊖ a) ≡ opposite_of (o.sign (a ⊖ b))
  difference_turned a b = ap o.sign (less_turned a b) ∙ o.sign_negative (a ⊖ b)

  -- of two steps to the right, one goes forward along a vector that leads up, and the other back
  pub bends : (u v w : Vector R) (t : Sign) → o.sign u.y ≡ Plus → o.sign v.x ≡ Plus → o.sign w.x ≡ Plus → o.sign (dot u w) ≡ t → o.sign (dot u v) ≡ opposite_of t → o.sign (cross o v w) ≡ t
  bends u v w t up right right' e f =
      sym (scale o (cross o v w) up) ∙ ap o.sign (bent u v w)
      ∙ o.sign_plus t (v.x · dot u w) (o.ring.negative (w.x · dot u v)) (scale o (dot u w) right ∙ e)
      (inl (o.sign_negative (w.x · dot u v) ∙ ap opposite_of (scale o (dot u v) right' ∙ f) ∙ opposite-opposite t))

  -- a step straight up goes forward along a vector that leads up
  pub dot_up : (u v : Vector R) → o.sign u.y ≡ Plus → o.sign v.x ≡ Zero → o.sign v.y ≡ Plus → o.sign (dot u v) ≡ Plus
  unfolding dot
  dot_up u v up none high = ap o.sign (o.ring.plus_comm (u.x · v.x) (u.y · v.y)) ∙ o.sign_plus Plus (u.y · v.y) (u.x · v.x) (scale o v.y up ∙ high) (inr (times_none u.x none))

  -- along a level vector to the right only x counts
  pub dot_level : (u v : Vector R) → o.sign u.y ≡ Zero → o.sign u.x ≡ Plus → o.sign (dot u v) ≡ o.sign v.x
  unfolding dot
  dot_level u v level right = o.sign_plus (o.sign v.x) (u.x · v.x) (u.y · v.y) (scale o v.x right) (inr (none_times v.y level))

  -- ---- squares
  pub square_some : (v : Vector R) → AtLeast (o.sign (square o v))
  square_some v = nonnegative_sum o (sign_square o v.x) (sign_square o v.y)

  pub square_zero : (v : Vector R) → o.sign (square o v) ≡ Zero → (o.sign v.x ≡ Zero) × (o.sign v.y ≡ Zero)
  square_zero v e = let k = sum_zero o (sign_square o v.x) (sign_square o v.y) e in (root v.x k.0, root v.y k.1)
    where
      root : (a : R) → o.sign (a · a) ≡ Zero → o.sign a ≡ Zero
      root a e = square_none (o.sign a) (sym (o.sign_times a a) ∙ e)

  pub square_of_none : (v : Vector R) → o.sign v.x ≡ Zero → o.sign v.y ≡ Zero → o.sign (square o v) ≡ Zero
  square_of_none v e f = o.sign_plus Zero (v.x · v.x) (v.y · v.y) (times_none v.x e) (inr (times_none v.y f))

  -- ---- points at places
  module _ (ps : Places o) where
    -- the square of the distance
    abbrev pub length : ℕ → ℕ → R
    length i j = square o (step o ps i j)

    pub length_turned : (i j : ℕ) → length j i ≡ length i j
    length_turned i j = by_identity o.ring (ps.x i ∷ ps.y i ∷ ps.x j ∷ ps.y j ∷ []) _ _ (search quotes_in depth 30 fits 40000) (search quotes_in depth 30 fits 40000) refl

    -- twice the way from p towards q
    pub forward : (p q r : ℕ) → dot (step o ps p q) (step o ps p r) ⊕ dot (step o ps p q) (step o ps p r) ≡ length p r ⊕ (length p q ⊖ length q r)
    unfolding dot
    forward p q r = by_identity o.ring (ps.x p ∷ ps.y p ∷ ps.x q ∷ ps.y q ∷ ps.x r ∷ ps.y r ∷ []) _ _ (search quotes_in depth 40 fits 80000) (search quotes_in depth 40 fits 80000) refl

    pub dot_turned : (u : Vector R) (i j : ℕ) → dot u (step o ps j i) ≡ o.ring.negative (dot u (step o ps i j))
    unfolding dot
    dot_turned u i j = by_identity o.ring (u.x ∷ u.y ∷ ps.x i ∷ ps.y i ∷ ps.x j ∷ ps.y j ∷ []) _ _ (search quotes_in depth 30 fits 40000) (search quotes_in depth 30 fits 40000) refl

    pub turned_dot : (i j : ℕ) (v : Vector R) → dot (step o ps i j) v ≡ o.ring.negative (dot (step o ps j i) v)
    unfolding dot
    turned_dot i j v = by_identity o.ring (v.x ∷ v.y ∷ ps.x i ∷ ps.y i ∷ ps.x j ∷ ps.y j ∷ []) _ _ (search quotes_in depth 30 fits 40000) (search quotes_in depth 30 fits 40000) refl

    moved : (p r q : ℕ) → length r q ⊖ length p q
        ≡ ((way o ps.x p r ⊖ (way o ps.x p q ⊕ way o ps.x p q)) · way o ps.x p r) ⊕ ((way o ps.y p r ⊖ (way o ps.y p q ⊕ way o ps.y p q)) · way o ps.y p r)
    moved p r q = by_identity o.ring (ps.x p ∷ ps.y p ∷ ps.x q ∷ ps.y q ∷ ps.x r ∷ ps.y r ∷ []) _ _ (search quotes_in depth 40 fits 80000) (search quotes_in depth 40 fits 80000) refl

    -- both are at one place
    abbrev pub Together : ℕ → ℕ → Type 0
    Together i j = Level o ps.x i j × Level o ps.y i j

    -- two points at one place are equally far from a third one
    pub equally_far : (p r q : ℕ) → Together p r → o.sign (length r q ⊖ length p q) ≡ Zero
    equally_far p r q t = ap o.sign (moved p r q) ∙ o.sign_plus Zero _ _ (times_none _ t.0.is) (inr (times_none _ t.1.is))

    pub no_length : (i j : ℕ) → o.sign (length i j) ≡ Zero → Together i j
    no_length i j e = let k = square_zero (step o ps i j) e in (record { is = k.0 }, record { is = k.1 })

    pub length_none : (i j : ℕ) → Together i j → o.sign (length i j) ≡ Zero
    length_none i j t = square_of_none (step o ps i j) t.0.is t.1.is
