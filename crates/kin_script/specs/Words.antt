-- What is read from the front of the words of a line.
use Rattle.std.specs.Prelude.{ℕ, ◌+◌, ◌-◌, ◌^◌, ℤ, unsigned_abs, Bool, true, false, ◌==◌, List, [], ◌∷◌, Option, Some, None, codes, if◌then◌else◌}
use Rattle.std.specs.Str.{bytes_eq}
use Rattle.kin_motion.specs.Course.{Course, motion_limit}
use Rattle.kin_script.specs.Lines.{Word, is_nil}
use Rattle.kin_script.specs.Numbers.{◌>>=◌, natural_of, integer_of}

-- the first word as a number, and the words after it
unfoldable pub natural_at : ℕ → ℕ → List Word → Option (ℕ × List Word)
natural_at low high [] = None
natural_at low high (w ∷ ws) = natural_of low high w >>= λ n. Some (n, ws)

unfoldable pub integer_at : ℕ → List Word → Option (ℤ × List Word)
integer_at far [] = None
integer_at far (w ∷ ws) = integer_of far w >>= λ z. Some (z, ws)

-- no word is left
abbrev pub last : {A : Type 0} → A → List Word → Option A
last x ws = if is_nil ws then Some x else None

-- the number of a point, which the size bounds, and the words after it
unfoldable pub number_at : ℕ → List Word → Option (ℕ × List Word)
number_at size ws = natural_at 0 (2 ^ size - 1) ws

-- a whole instant below 2^31, and the words after it
unfoldable pub instant_at : List Word → Option (ℕ × List Word)
instant_at ws = natural_at 0 2147483647 ws

-- four numbers as a motion, and the words after them
unfoldable pub motion_at : List Word → Option (Course × List Word)
motion_at ws = do
  x ← integer_at motion_limit ws
  y ← integer_at motion_limit x.1
  u ← integer_at motion_limit y.1
  v ← integer_at motion_limit u.1
  Some (record { x = x.0; y = y.0; u = u.0; v = v.0 }, v.1)

-- two numbers as a velocity, and the words after them
unfoldable pub velocity_at : List Word → Option ((ℤ × ℤ) × List Word)
velocity_at ws = do
  u ← integer_at motion_limit ws
  v ← integer_at motion_limit u.1
  Some ((u.0, v.0), v.1)

-- lo or hi, and the words after it: whether the greater root is meant
unfoldable pub side_at : List Word → Option (Bool × List Word)
side_at [] = None
side_at (w ∷ ws) =
    if bytes_eq w (codes "lo") then Some (false, ws)
    else if bytes_eq w (codes "hi") then Some (true, ws)
    else None

-- the direction DX DY, not both 0, and no word after it
unfoldable pub direction_at : List Word → Option (ℤ × ℤ)
direction_at ws = do
  dx ← integer_at 16 ws
  dy ← integer_at 16 dx.1
  if unsigned_abs dx.0 + unsigned_abs dy.0 == 0 then None else last (dx.0, dy.0) dy.1
