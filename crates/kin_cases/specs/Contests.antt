-- A tournament with the motions that it follows.
use Rattle.std.specs.Prelude.{◌≡◌, ℕ, ◌^◌, ◌≤◌, List, Option, Some, Bool, length, IsTrue}
use Rattle.kin_motion.specs.Course.{Course, live_of}
use Rattle.kin_motion.specs.Numbers.{IsIn}
use Rattle.kin_motion.specs.Tournaments.{item_in}
use Rattle.kin_tourney.specs.declared.along.Along.{Along}
use Rattle.kin_tourney.specs.Tournament.{Tournament, IsAtRest}

-- what each slot holds and whether it is marked is known, and different slots hold different live points
pub record IsHeld (size : ℕ) (motions : List (Option Course)) (slots : List (Option ℕ)) (marks : List Bool) (is_settled : Bool) (t : Tournament Along ℕ) : Type 0 where
  pub small : size ≤ 15
  pub size_is : t.size ≡ size
  pub whole : IsTrue t.whole
  pub slots_are : t.slots ≡ slots
  pub marks_are : t.marked ≡ marks
  pub slots_room : length slots ≡ 2 ^ size
  pub marks_room : length marks ≡ 2 ^ size
  pub apart : (i j a : ℕ) → item_in slots i ≡ Some a → item_in slots j ≡ Some a → i ≡ j
  pub live : (i a : ℕ) → item_in slots i ≡ Some a → IsIn a (live_of motions)
  pub rest : IsTrue is_settled → IsAtRest t
