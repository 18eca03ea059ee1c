-- What the words of a line say.
use Rattle.std.specs.Prelude.{ℕ, ℤ, pos, Bool, true, false, List, [], ◌∷◌, Option, Some, None, option_map, codes, if◌then◌else◌, ◌==◌, unsigned_abs}
use Rattle.std.specs.Str.{bytes_eq}
use Rattle.kin_script.specs.declared.command.Command.{Command}
use Rattle.kin_script.specs.declared.command.Command.TheVariants.{AtRatio, AtRoot, Next}
use Rattle.kin_script.specs.declared.line.HeaderLine.{HeaderLine}
use Rattle.kin_script.specs.declared.line.HeaderLine.TheVariants as header_line
use Rattle.kin_script.specs.Changes.{insert_of, remove_of, replace_of, turn_of, leg_of}
use Rattle.kin_script.specs.Questions.{keep_of, question_of}
use Rattle.kin_script.specs.Lines.{Word}
use Rattle.kin_script.specs.Numbers.{◌>>=◌, ratio_of}
use Rattle.kin_script.specs.Words.{natural_at, integer_at, side_at, last}

-- the coefficients A B C, with A not 0, and the words after them
unfoldable pub quadratic_at : List Word → Option ((ℤ × ℤ × ℤ) × List Word)
quadratic_at ws = do
  a ← integer_at 536870912 ws
  b ← integer_at 2147483648 a.1
  c ← integer_at 536870912 b.1
  if unsigned_abs a.0 == 0 then None else Some ((a.0, b.0, c.0), c.1)

-- at root A B C lo, at root A B C hi
unfoldable pub root_of : List Word → Option Command
root_of ws = do
  q ← quadratic_at ws
  upper ← side_at q.1
  last (AtRoot q.0.0 q.0.1 q.0.2 upper.0) upper.1

-- at N/D, at N, and the lines of a root
unfoldable pub at_of : List Word → Option Command
at_of [] = None
at_of (w ∷ ws) = if bytes_eq w (codes "root") then root_of ws else (do
  r ← ratio_of w
  last (AtRatio (pos r.0) (pos r.1)) ws)

-- the command of a line; the size bounds the numbers of points
unfoldable pub command_of : ℕ → List Word → Option Command
command_of size [] = None
command_of size (name ∷ ws) =
    if bytes_eq name (codes "insert") then insert_of size ws
    else if bytes_eq name (codes "remove") then remove_of size ws
    else if bytes_eq name (codes "replace") then replace_of size ws
    else if bytes_eq name (codes "turn") then turn_of size ws
    else if bytes_eq name (codes "leg") then leg_of size ws
    else if bytes_eq name (codes "at") then at_of ws
    else if bytes_eq name (codes "next") then last Next ws
    else question_of size name ws

-- size K
unfoldable pub size_of : List Word → Option ℕ
size_of [] = None
size_of (name ∷ ws) = if bytes_eq name (codes "size") then (do
  k ← natural_at 1 12 ws
  last k.0 k.1) else None

-- whether the journal is on: on, off
unfoldable pub journal_of : List Word → Option Bool
journal_of [] = None
journal_of (word ∷ ws) =
    if bytes_eq word (codes "on") then last true ws
    else if bytes_eq word (codes "off") then last false ws
    else None

-- a line of the header after the size line
unfoldable pub header_line_of : List Word → Option HeaderLine
header_line_of [] = None
header_line_of (name ∷ ws) =
    if bytes_eq name (codes "keep") then option_map (λ k. header_line.Keep k) (keep_of ws)
    else if bytes_eq name (codes "journal") then option_map (λ on. header_line.Journal on) (journal_of ws)
    else None
