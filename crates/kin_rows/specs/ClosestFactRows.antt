-- The facts of the closest pair in a unit square, and the candidates of a fan.
use Rattle.std.specs.Prelude.{◌≡◌, ℕ, pos, negsuc, List, [], ◌∷◌, Option, Some, slice_get, option_and_then}
use Rattle.kin_algebra.specs.declared.sign.Sign.TheVariants.{Minus, Zero, Plus}
use Rattle.kin_motion.specs.declared.form.Form.TheVariants.{Line, Dist}
use Rattle.kin_motion.specs.declared.keep.Keep.TheVariants.{Closest}
use Rattle.kin_motion.specs.Course.{Course}
use Rattle.kin_motion.specs.Scene.{scene_at}
use Rattle.kin_motion.specs.Octants.{candidate_of, octants}
use Rattle.kin_rows.specs.Settings.{point, at, fact, facts_in_order}
use Rattle.kin_rows.specs.Square.{square}

-- two points in each octant of point 0: first 1 and 2 in octant 0, at last 15 and 16 in octant 7
abbrev pub fan : List (Option Course)
fan =
    point (pos 0) (pos 0) (pos 0) (pos 0)
    ∷ point (pos 2) (pos 1) (pos 0) (pos 0)
    ∷ point (pos 4) (pos 1) (pos 0) (pos 0)
    ∷ point (pos 1) (pos 2) (pos 0) (pos 0)
    ∷ point (pos 1) (pos 4) (pos 0) (pos 0)
    ∷ point (negsuc 0) (pos 2) (pos 0) (pos 0)
    ∷ point (negsuc 0) (pos 4) (pos 0) (pos 0)
    ∷ point (negsuc 1) (pos 1) (pos 0) (pos 0)
    ∷ point (negsuc 3) (pos 1) (pos 0) (pos 0)
    ∷ point (negsuc 1) (negsuc 0) (pos 0) (pos 0)
    ∷ point (negsuc 3) (negsuc 0) (pos 0) (pos 0)
    ∷ point (negsuc 0) (negsuc 1) (pos 0) (pos 0)
    ∷ point (negsuc 0) (negsuc 3) (pos 0) (pos 0)
    ∷ point (pos 1) (negsuc 1) (pos 0) (pos 0)
    ∷ point (pos 1) (negsuc 3) (pos 0) (pos 0)
    ∷ point (pos 2) (negsuc 0) (pos 0) (pos 0)
    ∷ point (pos 4) (negsuc 0) (pos 0) (pos 0)
    ∷ []

-- the candidate of point 0 of the fan in an octant
abbrev pub fan_candidate : ℕ → Option ℕ
fan_candidate w = option_and_then (λ o. candidate_of (scene_at fan (at (pos 0))) o 0) (slice_get octants w)

-- the facts in the journal's order, and of each two points of the fan the candidate
pub record ClosestFactRows : Type 0 where
  pub square_facts : facts_in_order 2 Closest (scene_at square (at (pos 0)))
      ≡ fact 0 (Line (pos 0) (pos 1) (pos 0) 0 1) Zero
      ∷ fact 0 (Line (pos 0) (pos 1) (pos 0) 1 2) Plus
      ∷ fact 0 (Line (pos 0) (pos 1) (pos 0) 2 3) Zero
      ∷ fact 1 (Line (pos 1) (negsuc 0) (pos 0) 0 2) Zero
      ∷ fact 1 (Line (pos 1) (negsuc 0) (pos 0) 2 1) Plus
      ∷ fact 1 (Line (pos 1) (negsuc 0) (pos 0) 3 0) Plus
      ∷ fact 2 (Line (pos 1) (pos 0) (pos 0) 0 3) Zero
      ∷ fact 2 (Line (pos 1) (pos 0) (pos 0) 1 2) Zero
      ∷ fact 2 (Line (pos 1) (pos 0) (pos 0) 3 1) Plus
      ∷ fact 3 (Line (pos 1) (pos 1) (pos 0) 0 1) Plus
      ∷ fact 3 (Line (pos 1) (pos 1) (pos 0) 1 3) Zero
      ∷ fact 3 (Line (pos 1) (pos 1) (pos 0) 3 2) Plus
      ∷ fact 4 (Line (pos 2) (pos 1) (pos 0) 0 3) Plus
      ∷ fact 4 (Line (pos 2) (pos 1) (pos 0) 1 2) Plus
      ∷ fact 4 (Line (pos 2) (pos 1) (pos 0) 3 1) Plus
      ∷ fact 5 (Line (pos 1) (pos 2) (pos 0) 0 1) Plus
      ∷ fact 5 (Line (pos 1) (pos 2) (pos 0) 1 3) Plus
      ∷ fact 5 (Line (pos 1) (pos 2) (pos 0) 3 2) Plus
      ∷ fact 6 (Line (negsuc 0) (pos 2) (pos 0) 0 2) Plus
      ∷ fact 6 (Line (negsuc 0) (pos 2) (pos 0) 1 0) Plus
      ∷ fact 6 (Line (negsuc 0) (pos 2) (pos 0) 2 3) Plus
      ∷ fact 7 (Line (negsuc 1) (pos 1) (pos 0) 0 3) Plus
      ∷ fact 7 (Line (negsuc 1) (pos 1) (pos 0) 1 2) Plus
      ∷ fact 7 (Line (negsuc 1) (pos 1) (pos 0) 2 0) Plus
      ∷ fact 9 (Dist 0 1 0 3) Zero
      ∷ fact 10 (Dist 0 1 0 1) Zero
      ∷ fact 11 (Dist 1 2 0 3) Zero
      ∷ fact 13 (Dist 1 2 0 1) Zero
      ∷ fact 14 (Dist 2 3 1 2) Zero
      ∷ fact 18 (Dist 1 2 1 3) Plus
      ∷ fact 23 (Dist 0 3 2 3) Zero
      ∷ fact 24 (Dist 0 1 0 3) Zero
      ∷ fact 34 (Dist 0 2 1 2) Minus
      ∷ fact 39 (Dist 1 3 2 3) Minus
      ∷ []
  pub fan_0 : fan_candidate 0 ≡ Some 1
  pub fan_1 : fan_candidate 1 ≡ Some 3
  pub fan_2 : fan_candidate 2 ≡ Some 5
  pub fan_3 : fan_candidate 3 ≡ Some 7
  pub fan_4 : fan_candidate 4 ≡ Some 9
  pub fan_5 : fan_candidate 5 ≡ Some 11
  pub fan_6 : fan_candidate 6 ≡ Some 13
  pub fan_7 : fan_candidate 7 ≡ Some 15
