-- The script that a seed and a count give: points with courses drawn by a linear congruential generator.
use Rattle.std.specs.Prelude.{◌≡◌, ℕ, zero, suc, ◌+◌, ◌*◌, ◌/◌, ◌%◌, ◌^◌, ◌≤◌, ℤ, pos, ◌-ℤ◌, neg_ℤ, false, List, [], ◌∷◌, ◌++◌}
use Rattle.kin_motion.specs.Course.{Course}
use Rattle.kin_motion.specs.declared.keep.Keep.{Keep}
use Rattle.kin_motion.specs.declared.keep.Keep.TheVariants as keep
use Rattle.kin_script.specs.declared.command.Command.{Command}
use Rattle.kin_script.specs.declared.command.Command.TheVariants.{Insert, AtRatio, Extreme, Hull, Closest, Inside, Live}
use Rattle.kin_script.specs.declared.script.Script.{Script}

-- the state of the generator after another one
unfoldable pub next_state : ℕ → ℕ
next_state z = (1664525 * z + 1013904223) % 2 ^ 32

-- the state after so many draws
unfoldable pub state_after : ℕ → ℕ → ℕ
state_after zero z = z
state_after (suc n) z = next_state (state_after n z)

-- what is drawn where this state is reached: its upper half
unfoldable pub drawn : ℕ → ℕ
drawn z = z / 2 ^ 16

-- the whole number of -reach..reach that a draw picks
unfoldable pub picked : ℕ → ℕ → ℤ
picked reach draw = pos (draw % (2 * reach + 1)) -ℤ pos reach

-- the course that the four draws after a state give: the place, and then the speed
unfoldable pub course_behind : ℕ → Course
course_behind z = record {
  x = picked 1000 (drawn (state_after 1 z));
  y = picked 1000 (drawn (state_after 2 z));
  u = picked 10 (drawn (state_after 3 z));
  v = picked 10 (drawn (state_after 4 z));
}

-- the line that inserts the point of this number, from 0 on: four draws are made for each point, and there are seven lines before the first
abbrev pub insertion : ℕ → ℕ → ℕ × Command
insertion seed number = (8 + number, Insert number (course_behind (state_after (4 * number) seed)))

-- the lines that insert the first points
abbrev pub insertions : ℕ → ℕ → List (ℕ × Command)
insertions seed zero = []
insertions seed (suc n) = insertions seed n ++ insertion seed n ∷ []

-- what is kept: one structure of each kind but nearest neighbours, a farthest pair and boxes
abbrev pub generated_keeps : List Keep
generated_keeps = keep.Order (pos 1) (pos 0) ∷ keep.Extreme (pos 1) (pos 1) ∷ keep.Hull ∷ keep.Closest ∷ keep.Range ∷ []

-- the lines after the points: all that is kept is asked for at the time 20
abbrev pub questions : ℕ → List (ℕ × Command)
questions line =
    (line, AtRatio (pos 20) (pos 1))
    ∷ (line + 1, Extreme 1)
    ∷ (line + 2, Hull)
    ∷ (line + 3, Closest)
    ∷ (line + 4, Inside (record { x1 = neg_ℤ (pos 100); x2 = pos 100; y1 = neg_ℤ (pos 100); y2 = pos 100 }))
    ∷ (line + 5, Live)
    ∷ []

-- the least size of at least 1 that has room for so many points
pub record IsLeastSize (count size : ℕ) : Type 0 where
  pub low : 1 ≤ size
  pub room : count ≤ 2 ^ size
  pub least : (n : ℕ) → 1 ≤ n → count ≤ 2 ^ n → size ≤ n

-- the script of this seed with so many points
pub record IsGenerated (seed count : ℕ) (s : Script) : Type 0 where
  pub size : IsLeastSize count s.size
  pub keeps : s.keeps ≡ generated_keeps
  pub journal : s.journal ≡ false
  pub lines : s.lines ≡ insertions seed count ++ questions (8 + count)
