-- Forms: the numbers that they name, their polynomials and their signs.
use Rattle.std.specs.Prelude.{ℤ, pos, ◌+ℤ◌, ◌-ℤ◌, ◌*ℤ◌, ℕ, ◌≤◌, ◌^◌, unsigned_abs, Bool, List, [], ◌∷◌, Option, Some, None}
use Rattle.kin_algebra.specs.declared.sign.Sign.{Sign}
use Rattle.kin_num.specs.declared.instant.Moment.{Moment}
use Rattle.kin_num.specs.Quadratic.{Quadratic, quadratic_sum}
use Rattle.kin_num.specs.Instants.{sign_at}
use Rattle.kin_motion.specs.declared.form.Form.{Form}
use Rattle.kin_motion.specs.declared.form.Form.TheVariants.{Line, Turn, Slope, Dist}
use Rattle.kin_motion.specs.Course.{Course, motion_of}
use Rattle.kin_motion.specs.Numbers.{is_in, IsIn}

-- the numbers that a form names
abbrev pub numbers_of : Form → List ℕ
numbers_of (Line dx dy off i j) = i ∷ j ∷ []
numbers_of (Turn i j k) = i ∷ j ∷ k ∷ []
numbers_of (Slope i j k l) = i ∷ j ∷ k ∷ l ∷ []
numbers_of (Dist i j k l) = i ∷ j ∷ k ∷ l ∷ []

-- whether the form names the number
abbrev pub names : Form → ℕ → Bool
names f i = is_in i (numbers_of f)

-- both numbers are live, the parts of the direction are in -16..16, and the offset is in -2^16..2^16
pub record IsAskableLine (live : List ℕ) (dx dy off : ℤ) (i j : ℕ) : Type 0 where
  pub i_live : IsIn i live
  pub j_live : IsIn j live
  pub dx_small : unsigned_abs dx ≤ 16
  pub dy_small : unsigned_abs dy ≤ 16
  pub off_small : unsigned_abs off ≤ 2 ^ 16

-- where these numbers are live the form may be asked for: it names live numbers alone, and a line is as above
abbrev pub IsAskable : List ℕ → Form → Type 0
IsAskable live (Line dx dy off i j) = IsAskableLine live dx dy off i j
IsAskable live (Turn i j k) = IsIn i live × IsIn j live × IsIn k live
IsAskable live (Slope i j k l) = IsIn i live × IsIn j live × IsIn k live × IsIn l live
IsAskable live (Dist i j k l) = IsIn i live × IsIn j live × IsIn k live × IsIn l live

-- the line slope*t + start
pub record Linear : Type 0 where
  pub slope : ℤ
  pub start : ℤ

-- the difference of two lines
abbrev pub minus : Linear → Linear → Linear
minus p q = record { slope = p.slope -ℤ q.slope; start = p.start -ℤ q.start }

-- the product of two lines
abbrev pub product : Linear → Linear → Quadratic
product p q = record { a = p.slope *ℤ q.slope; b = p.slope *ℤ q.start +ℤ p.start *ℤ q.slope; c = p.start *ℤ q.start }

-- the difference of two polynomials
abbrev pub difference : Quadratic → Quadratic → Quadratic
difference p q = record { a = p.a -ℤ q.a; b = p.b -ℤ q.b; c = p.c -ℤ q.c }

-- the x of a point, x + u*t
abbrev pub x_of_course : Option Course → Linear
x_of_course (Some c) = record { slope = c.u; start = c.x }
x_of_course None = record { slope = pos 0; start = pos 0 }

-- the y of a point, y + v*t
abbrev pub y_of_course : Option Course → Linear
y_of_course (Some c) = record { slope = c.v; start = c.y }
y_of_course None = record { slope = pos 0; start = pos 0 }

-- the x of point i
abbrev pub x_of : List (Option Course) → ℕ → Linear
x_of ms i = x_of_course (motion_of ms i)

-- the y of point i
abbrev pub y_of : List (Option Course) → ℕ → Linear
y_of ms i = y_of_course (motion_of ms i)

-- the step from i to j along x
abbrev pub x_step : List (Option Course) → ℕ → ℕ → Linear
x_step ms i j = minus (x_of ms j) (x_of ms i)

-- the step from i to j along y
abbrev pub y_step : List (Option Course) → ℕ → ℕ → Linear
y_step ms i j = minus (y_of ms j) (y_of ms i)

-- dx*x + dy*y + off
abbrev pub along : ℤ → ℤ → ℤ → Linear → Linear → Quadratic
along dx dy off x y = record { a = pos 0; b = dx *ℤ x.slope +ℤ dy *ℤ y.slope; c = dx *ℤ x.start +ℤ dy *ℤ y.start +ℤ off }

-- the squared distance of two points
abbrev pub square_of_step : List (Option Course) → ℕ → ℕ → Quadratic
square_of_step ms i j = quadratic_sum (product (x_step ms i j) (x_step ms i j)) (product (y_step ms i j) (y_step ms i j))

-- the polynomial that a form names
unfoldable pub polynomial_of : List (Option Course) → Form → Quadratic
polynomial_of ms (Line dx dy off i j) = along dx dy off (x_step ms i j) (y_step ms i j)
polynomial_of ms (Turn i j k) = difference (product (x_step ms i j) (y_step ms i k)) (product (y_step ms i j) (x_step ms i k))
polynomial_of ms (Slope i j k l) = difference (product (y_step ms i j) (x_step ms k l)) (product (y_step ms k l) (x_step ms i j))
polynomial_of ms (Dist i j k l) = difference (square_of_step ms k l) (square_of_step ms i j)

-- the sign of a form at a moment
unfoldable pub sign_of_form : List (Option Course) → Form → Moment → Sign
sign_of_form ms f m = sign_at (polynomial_of ms f) m
