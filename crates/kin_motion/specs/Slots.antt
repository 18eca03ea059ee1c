-- Motions in two rows: which numbers are live, and how each of these moves.
use Rattle.std.specs.Prelude.{◌≡◌, List, [], ◌∷◌, Option, Some, None, Bool, cond, length}
use Rattle.kin_motion.specs.Course.{Course, AreSlow}

-- the course of a number where it is live
abbrev pub slots_of : List Bool → List Course → List (Option Course)
slots_of [] cs = []
slots_of (b ∷ bs) [] = []
slots_of (b ∷ bs) (c ∷ cs) = cond b (Some c) None ∷ slots_of bs cs

-- both rows have one entry for each number, and each live number is slow
pub record AreSlots (live : List Bool) (courses : List Course) : Type 0 where
  pub fits : length courses ≡ length live
  pub slow : AreSlow (slots_of live courses)
