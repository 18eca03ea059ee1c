-- The sides of a rectangle, and the places of an order between two of them.
use Rattle.std.specs.Prelude.{◌≡◌, ◌≤◌, ◌<◌, ◌^◌, ℕ, ℤ, pos, negsuc, unsigned_abs, List, length, Option, Some, slice_get, Bool, ◌&&◌, nat_le, nat_lt}
use lib.IntN.{neg_ℤ}
use Rattle.kin_num.specs.declared.instant.Moment.{Moment}
use Rattle.kin_motion.specs.declared.keep.Rect.{Rect}
use Rattle.kin_motion.specs.Boxes.{is_at_least}
use Rattle.kin_motion.specs.Course.{Course}

-- a side of a rectangle: a point is within it where dx*x + dy*y + off is at least 0
pub record Side : Type 0 where
  pub dx : ℤ
  pub dy : ℤ
  pub off : ℤ

-- it is a side of a rectangle whose border is in -2^24..2^24
pub record IsAlongAxis (s : Side) : Type 0 where
  pub dx_small : unsigned_abs s.dx ≤ 1
  pub dy_small : unsigned_abs s.dy ≤ 1
  pub off_small : unsigned_abs s.off ≤ 2 ^ 24

-- whether a point is within it at a moment
abbrev pub is_within : List (Option Course) → Moment → Side → ℕ → Bool
is_within ms m s i = is_at_least ms m s.dx s.dy s.off i

abbrev pub left_of : Rect → Side
left_of r = record { dx = pos 1; dy = pos 0; off = neg_ℤ r.x1 }

abbrev pub right_of : Rect → Side
right_of r = record { dx = negsuc 0; dy = pos 0; off = r.x2 }

abbrev pub bottom_of : Rect → Side
bottom_of r = record { dx = pos 0; dy = pos 1; off = neg_ℤ r.y1 }

abbrev pub top_of : Rect → Side
top_of r = record { dx = pos 0; dy = negsuc 0; off = r.y2 }

-- the places from `from` on and before `to`
pub record Span : Type 0 where
  pub from : ℕ
  pub to : ℕ

-- whether a place is in it
abbrev pub is_in_span : Span → ℕ → Bool
is_in_span s p = nat_le s.from p && nat_lt p s.to

-- the items that meet a test are those at the places in the span
pub record IsSpanOf (test : ℕ → Bool) (xs : List ℕ) (s : Span) : Type 0 where
  pub ordered : s.from ≤ s.to
  pub within : s.to ≤ length xs
  pub each : (p i : ℕ) → slice_get xs p ≡ Some i → test i ≡ is_in_span s p

-- the items at which a test comes out so are followed by no others, but follow each other from the first place on
abbrev pub TurnsOnce : (ℕ → Bool) → Bool → List ℕ → Type 0
TurnsOnce test first xs = (p q i j : ℕ) → p < q → slice_get xs p ≡ Some i → slice_get xs q ≡ Some j → test j ≡ first → test i ≡ first
