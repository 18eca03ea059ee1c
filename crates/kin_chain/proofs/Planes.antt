-- Points at fixed places over an ordered ring: what a scene shows of them, and heights along directions.
use Rattle.std.proofs.Common.{◌≡◌, [], ◌∷◌, ℕ, refl}
use Rattle.kin_algebra.proofs.Ring.{by_identity, quotes_in}
use Rattle.kin_algebra.proofs.OrderedRings.{OrderedRing}
use Rattle.kin_motion.specs.declared.form.Form.TheVariants.{Turn, Slope, Dist}
use Rattle.kin_motion.specs.Scene.{Scene, x_sign, y_sign}
use Rattle.kin_motion.proofs.DistanceValues.{square}
use Rattle.kin_chain.proofs.Comparisons.{way}
use Rattle.kin_algebra.proofs.Vectors.{Vector, cross}

module _ {R : Type 0} (o : OrderedRing R) where
  -- the place of each number
  pub record Places : Type 0 where
    pub x : ℕ → R
    pub y : ℕ → R

  -- from one number to another
  abbrev pub step : Places → ℕ → ℕ → Vector R
  step ps i j = record { x = way o ps.x i j; y = way o ps.y i j }

  -- how high a number is along a vector, in the vector's own measure
  unfoldable pub height : Places → Vector R → ℕ → R
  height ps e i = o.ring.plus (o.ring.times e.x (ps.y i)) (o.ring.negative (o.ring.times e.y (ps.x i)))

  -- the scene shows the points at these places
  pub record Shows (s : Scene) (ps : Places) : Type 0 where
    pub x_signs : (i j : ℕ) → x_sign s i j ≡ o.sign (way o ps.x i j)
    pub y_signs : (i j : ℕ) → y_sign s i j ≡ o.sign (way o ps.y i j)
    -- the turn is how much higher k is than i along the way from i to j
    pub turns : (i j k : ℕ) → s.sign (Turn i j k) ≡ o.sign (way o (height ps (step ps i j)) i k)
    -- the slope is how much lower l is than k along the way from i to j
    pub slopes : (i j k l : ℕ) → s.sign (Slope i j k l) ≡ o.sign (way o (height ps (step ps i j)) l k)
    -- the difference of squared distances is that of the squares of both steps
    pub distances : (i j k l : ℕ) → s.sign (Dist i j k l) ≡ o.sign (o.ring.plus (square o (step ps k l)) (o.ring.negative (square o (step ps i j))))

  module _ (ps : Places) where
    -- a rise is the cross of the vector and the step
    pub rise : (e : Vector R) (i j : ℕ) → way o (height ps e) i j ≡ cross o e (step ps i j)
    unfolding cross height
    rise e i j = by_identity o.ring (e.x ∷ e.y ∷ ps.x i ∷ ps.y i ∷ ps.x j ∷ ps.y j ∷ []) _ _ (search quotes_in depth 30 fits 40000) (search quotes_in depth 30 fits 40000) refl

    -- and a fall is the cross of the step and the vector
    pub fall : (e : Vector R) (i j : ℕ) → way o (height ps e) j i ≡ cross o (step ps i j) e
    unfolding cross height
    fall e i j = by_identity o.ring (e.x ∷ e.y ∷ ps.x i ∷ ps.y i ∷ ps.x j ∷ ps.y j ∷ []) _ _ (search quotes_in depth 30 fits 40000) (search quotes_in depth 30 fits 40000) refl

    -- how far q lies above the middle point p along q r
    pub bend : (q p r : ℕ) → way o (height ps (step ps q r)) p q ≡ cross o (step ps q p) (step ps p r)
    unfolding cross height
    bend q p r =
        by_identity o.ring (ps.x q ∷ ps.y q ∷ ps.x p ∷ ps.y p ∷ ps.x r ∷ ps.y r ∷ []) _ _ (search quotes_in depth 40 fits 80000) (search quotes_in depth 40 fits 80000) refl
