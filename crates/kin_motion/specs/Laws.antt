-- The laws of signs that orders and chains rest on. They hold in every real scene.
use Rattle.std.specs.Prelude.{◌≡◌, ℕ, ℤ, pos, ◌+ℤ◌}
use Rattle.kin_algebra.specs.declared.sign.Sign.TheVariants.{Plus}
use Rattle.kin_algebra.specs.Signs.{opposite_of, SumMayBe}
use Rattle.kin_motion.specs.declared.form.Form.TheVariants.{Line, Turn, Slope, Dist}
use Rattle.kin_motion.specs.Scene.{Scene, x_sign}

-- the laws of the lines along a direction, which orders rest on
pub record HasLineLaws (s : Scene) : Type 0 where
  -- the step from j to i is the opposite of that from i to j
  pub opposite : (dx dy : ℤ) (i j : ℕ) → s.sign (Line dx dy (pos 0) j i) ≡ opposite_of (s.sign (Line dx dy (pos 0) i j))
  -- the step from i to k is that from i to j and that from j to k
  pub chain : (dx dy : ℤ) (i j k : ℕ) → SumMayBe (s.sign (Line dx dy (pos 0) i j)) (s.sign (Line dx dy (pos 0) j k)) (s.sign (Line dx dy (pos 0) i k))
  -- along the sum of two directions it is the sum
  pub directions : (dx dy ex ey : ℤ) (i j : ℕ) → SumMayBe (s.sign (Line dx dy (pos 0) i j)) (s.sign (Line ex ey (pos 0) i j)) (s.sign (Line (dx +ℤ ex) (dy +ℤ ey) (pos 0) i j))

-- the laws of turns and slopes of three points
pub record HasTurnLaws (s : Scene) : Type 0 where
  -- a turn with two of its numbers exchanged is the opposite
  pub exchanged : (i j k : ℕ) → s.sign (Turn i k j) ≡ opposite_of (s.sign (Turn i j k))
  -- of two segments that meet, the first is steeper where the way turns right
  pub slope : (i j k : ℕ) → s.sign (Slope i j j k) ≡ opposite_of (s.sign (Turn i j k))

-- the laws of differences of squared distances, which the closest pair rests on
pub record HasDistanceLaws (s : Scene) : Type 0 where
  -- the pairs the other way round
  pub opposite : (i j k l : ℕ) → s.sign (Dist k l i j) ≡ opposite_of (s.sign (Dist i j k l))
  -- from the first pair to the third it is the sum
  pub chain : (i j k l m n : ℕ) → SumMayBe (s.sign (Dist i j k l)) (s.sign (Dist k l m n)) (s.sign (Dist i j m n))

-- the laws of slopes, which the list of breakpoints rests on
pub record HasSlopeLaws (s : Scene) : Type 0 where
  -- the steps the other way round
  pub opposite : (i j k l : ℕ) → s.sign (Slope k l i j) ≡ opposite_of (s.sign (Slope i j k l))
  -- of three steps to the right, the first against the third is the sum
  pub through : (i j k l m n : ℕ) → x_sign s i j ≡ Plus → x_sign s k l ≡ Plus → x_sign s m n ≡ Plus → SumMayBe (s.sign (Slope i j k l)) (s.sign (Slope k l m n)) (s.sign (Slope i j m n))
