-- When two points come within a distance of each other.
use Rattle.std.specs.Prelude.{◌≡◌, ℕ, pos, ◌*◌, ◌+ℤ◌, ◌-ℤ◌, ◌*ℤ◌}
use Rattle.kin_algebra.specs.declared.sign.Sign.TheVariants.{Plus}
use Rattle.kin_num.specs.declared.instant.Moment.{Moment}
use Rattle.kin_num.specs.Quadratic.{Quadratic}
use Rattle.kin_num.specs.Canonical.{IsCanonical}
use Rattle.kin_num.specs.Instants.{sign_at}
use Rattle.kin_num.specs.Order.{IsEarlier}
use Rattle.kin_motion.specs.Course.{Course}
use Rattle.kin_motion.specs.Moments.{IsFromUntil}

-- the squared distance of two points, less d*d
abbrev pub clearance : ℕ → Course → Course → Quadratic
clearance d p q =
    let x = q.x -ℤ p.x in
    let y = q.y -ℤ p.y in
    let u = q.u -ℤ p.u in
    let v = q.v -ℤ p.v in
    record { a = u *ℤ u +ℤ v *ℤ v; b = pos 2 *ℤ (u *ℤ x +ℤ v *ℤ y); c = (x *ℤ x +ℤ y *ℤ y) -ℤ pos (d * d) }

-- at this moment the points are farther apart than d
abbrev pub AreApart : ℕ → Course → Course → Moment → Type 0
AreApart d p q m = sign_at (clearance d p q) m ≡ Plus

-- they aren't at this moment, but at each one from now until then
pub record IsFirstWithin (d : ℕ) (p q : Course) (now m : Moment) : Type 0 where
  pub canonical : IsCanonical m.at
  pub from : ¬ (IsEarlier m now)
  pub within : ¬ (AreApart d p q m)
  pub before : (n : Moment) → IsFromUntil now m n → AreApart d p q n

-- they are at every moment from now on
abbrev pub StayApart : ℕ → Course → Course → Moment → Type 0
StayApart d p q now = (n : Moment) → IsCanonical n.at → ¬ (IsEarlier n now) → AreApart d p q n
