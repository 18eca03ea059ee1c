-- What is true of every sorted list.
use Rattle.std.specs.Prelude.{◌≡◌, Bool, true, []}
use Rattle.kin_sorted.specs.Marks.{Marks, AreMarks}
use Rattle.kin_motion.specs.Ranks.{Ranks}
use Rattle.kin_sorted.specs.Repairs.{IsHeld}
use Rattle.kin_sorted.specs.Rows.{Row}

-- but for a list of which a settle was cut off the marks are sound, and the links are those of the neighbours, each with a sign by which they are in order
pub record IsSound (r : Ranks) (m : Marks) (whole : Bool) (row : Row) : Type 0 where
  pub room : row.room ≡ r.slots
  pub marks : whole ≡ true → AreMarks m row.room row.items
  pub held : whole ≡ true → IsHeld r row.links row.items row.signs [] []
