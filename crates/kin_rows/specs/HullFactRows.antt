-- The facts of a hull and of a range, each with its part and sign.
use Rattle.std.specs.Prelude.{◌≡◌, pos, List, [], ◌∷◌, Option}
use Rattle.kin_algebra.specs.declared.sign.Sign.TheVariants.{Minus, Zero, Plus}
use Rattle.kin_motion.specs.declared.form.Form.TheVariants.{Line, Turn, Slope}
use Rattle.kin_motion.specs.declared.keep.Keep.TheVariants.{Hull, Range}
use Rattle.kin_motion.specs.Course.{Course}
use Rattle.kin_motion.specs.Scene.{scene_at}
use Rattle.kin_motion.specs.Chains.{cycle_of}
use Rattle.kin_rows.specs.Settings.{point, at, fact, facts_in_order}

-- four still points: the slopes of both halves are equal
abbrev pub four : List (Option Course)
four =
    point (pos 0) (pos 0) (pos 0) (pos 0)
    ∷ point (pos 2) (pos 2) (pos 0) (pos 0)
    ∷ point (pos 0) (pos 1) (pos 0) (pos 0)
    ∷ point (pos 2) (pos 3) (pos 0) (pos 0)
    ∷ []

-- two points straight above each other, and one next to them: the upper and the lower chain of the first two differ
abbrev pub stacked : List (Option Course)
stacked =
    point (pos 0) (pos 0) (pos 0) (pos 0)
    ∷ point (pos 0) (pos 1) (pos 0) (pos 0)
    ∷ point (pos 1) (pos 0) (pos 0) (pos 0)
    ∷ []

-- the facts in the journal's order
pub record HullFactRows : Type 0 where
  pub four_hull : cycle_of (scene_at four (at (pos 0))) ≡ 0 ∷ 1 ∷ 3 ∷ 2 ∷ []
  pub four_facts : facts_in_order 2 Hull (scene_at four (at (pos 0)))
      ≡ fact 2 (Line (pos 0) (pos 1) (pos 0) 0 2) Plus
      ∷ fact 2 (Line (pos 0) (pos 1) (pos 0) 1 3) Plus
      ∷ fact 2 (Line (pos 1) (pos 0) (pos 0) 0 2) Zero
      ∷ fact 2 (Line (pos 1) (pos 0) (pos 0) 1 3) Zero
      ∷ fact 2 (Turn 0 1 2) Plus
      ∷ fact 2 (Turn 2 3 1) Minus
      ∷ fact 2 (Slope 0 1 2 3) Zero
      ∷ fact 3 (Line (pos 0) (pos 1) (pos 0) 0 2) Plus
      ∷ fact 3 (Line (pos 0) (pos 1) (pos 0) 1 3) Plus
      ∷ fact 3 (Line (pos 1) (pos 0) (pos 0) 0 2) Zero
      ∷ fact 3 (Line (pos 1) (pos 0) (pos 0) 1 3) Zero
      ∷ fact 3 (Turn 0 1 2) Plus
      ∷ fact 3 (Turn 2 3 1) Minus
      ∷ fact 3 (Slope 0 1 2 3) Zero
      ∷ fact 4 (Line (pos 1) (pos 0) (pos 0) 0 1) Plus
      ∷ fact 5 (Line (pos 1) (pos 0) (pos 0) 0 1) Plus
      ∷ fact 6 (Line (pos 1) (pos 0) (pos 0) 2 3) Plus
      ∷ fact 7 (Line (pos 1) (pos 0) (pos 0) 2 3) Plus
      ∷ []
  pub stacked_facts : facts_in_order 2 Hull (scene_at stacked (at (pos 0)))
      ≡ fact 2 (Line (pos 1) (pos 0) (pos 0) 1 2) Plus
      ∷ fact 3 (Line (pos 1) (pos 0) (pos 0) 0 2) Plus
      ∷ fact 4 (Line (pos 0) (pos 1) (pos 0) 0 1) Plus
      ∷ fact 4 (Line (pos 1) (pos 0) (pos 0) 0 1) Zero
      ∷ fact 5 (Line (pos 0) (pos 1) (pos 0) 0 1) Plus
      ∷ fact 5 (Line (pos 1) (pos 0) (pos 0) 0 1) Zero
      ∷ []
  pub stacked_range : facts_in_order 2 Range (scene_at stacked (at (pos 0)))
      ≡ fact 0 (Line (pos 1) (pos 0) (pos 0) 0 1) Zero
      ∷ fact 0 (Line (pos 1) (pos 0) (pos 0) 1 2) Plus
      ∷ fact 1 (Line (pos 0) (pos 1) (pos 0) 0 2) Zero
      ∷ fact 1 (Line (pos 0) (pos 1) (pos 0) 2 1) Plus
      ∷ []
