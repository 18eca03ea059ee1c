-- Turning: a point gets another velocity at the place where it is.
use Rattle.std.specs.Prelude.{◌≡◌, ◌⊎◌, ℕ, ℤ, ◌-ℤ◌, List, Option, Some, slice_set}
use Rattle.kin_algebra.specs.declared.sign.Sign.TheVariants.{Zero}
use Rattle.kin_num.specs.declared.instant.Shape.{Shape}
use Rattle.kin_num.specs.declared.instant.Phase.TheVariants.{At, After}
use Rattle.kin_num.specs.declared.instant.Moment.{Moment}
use Rattle.kin_num.specs.Quadratic.{linear}
use Rattle.kin_num.specs.Canonical.{IsCanonical}
use Rattle.kin_num.specs.Instants.{sign_at_instant}
use Rattle.kin_motion.specs.Course.{Course, IsSlow, motion_of, live_of}
use Rattle.kin_motion.specs.Forms.{Linear, x_of, y_of}
use Rattle.kin_motion.specs.Scene.{scene_at}

-- the instant itself, and not just after it
abbrev pub just_at : Shape → Moment
just_at w = record { at = w; phase = At }

-- where the velocity u of a coordinate x + u*t becomes u', its constant part becomes k: (u - u')*w + x - k is 0 at the instant w
abbrev pub IsNewStart : ℤ → ℤ → ℤ → Shape → ℤ → Type 0
IsNewStart x u u' w k = sign_at_instant (linear (u -ℤ u') (x -ℤ k)) w ≡ Zero

-- the motion with the velocity (u, v) that is at the same place at the instant
pub record TurnsTo (w : Shape) (u v : ℤ) (old new : Course) : Type 0 where
  pub x_start : IsNewStart old.x old.u u w new.x
  pub y_start : IsNewStart old.y old.v v w new.y
  pub u_is : new.u ≡ u
  pub v_is : new.v ≡ v

-- there is no such motion with whole numbers, or the moment is just after an instant
abbrev pub IsNotWhole : Moment → ℤ → ℤ → Course → Type 0
IsNotWhole m u v old = (m.phase ≡ After) ⊎ ((new : Course) → ¬ (TurnsTo m.at u v old new))

-- there is one, but it isn't slow
abbrev pub IsOutOfBounds : Moment → ℤ → ℤ → Course → Type 0
IsOutOfBounds m u v old = (m.phase ≡ At) × ((new : Course) × TurnsTo m.at u v old new × ¬ (IsSlow new))

-- two coordinates are equal at the instant
abbrev pub AreEqualAt : Shape → Linear → Linear → Type 0
AreEqualAt w p q = sign_at_instant (linear (p.slope -ℤ q.slope) (p.start -ℤ q.start)) w ≡ Zero

-- each point is at one place at the instant by both lists of motions
pub record HaveSamePlaces (w : Shape) (before after : List (Option Course)) : Type 0 where
  pub x : (i : ℕ) → AreEqualAt w (x_of before i) (x_of after i)
  pub y : (i : ℕ) → AreEqualAt w (y_of before i) (y_of after i)

-- what is seen at an instant depends on which numbers are live and where each point is: the signs of all forms are the same
abbrev pub SceneIsByPlaces : Type 0
SceneIsByPlaces = (w : Shape) (before after : List (Option Course)) → IsCanonical w → live_of before ≡ live_of after → HaveSamePlaces w before after
    → scene_at before (just_at w) ≡ scene_at after (just_at w)

-- so a turn leaves all that is seen at its instant
abbrev pub TurnKeepsScene : Type 0
TurnKeepsScene = (ms : List (Option Course)) (n : ℕ) (u v : ℤ) (old new : Course) (w : Shape) → IsCanonical w → motion_of ms n ≡ Some old → TurnsTo w u v old new
    → scene_at (slice_set ms n (Some new)) (just_at w) ≡ scene_at ms (just_at w)

-- there is one motion to turn to at most
abbrev pub OneTurn : Type 0
OneTurn = (w : Shape) (u v : ℤ) (old a b : Course) → IsCanonical w → TurnsTo w u v old a → TurnsTo w u v old b → a ≡ b
