-- Where the lower and the upper chain of one set of points meet.
use Rattle.std.specs.Prelude.{◌≡◌, ℕ, ◌-◌, List, length, Some, slice_get, ◌⊎◌}
use Rattle.kin_motion.specs.Numbers.{IsIn}

-- the number is the first or the last of the list
abbrev pub IsEnd : List ℕ → ℕ → Type 0
IsEnd xs p = (slice_get xs 0 ≡ Some p) ⊎ (slice_get xs (length xs - 1) ≡ Some p)

-- what is in both chains is at an end of the lower one
abbrev pub MeetAtEnds : List ℕ → List ℕ → Type 0
MeetAtEnds lower upper = (p : ℕ) → IsIn p upper → IsIn p lower → IsEnd lower p
