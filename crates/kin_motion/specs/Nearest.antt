-- The nearest other point of a point.
use Rattle.std.specs.Prelude.{◌≡◌, ◌≢◌, ℕ, ◌<◌, Bool, true, false, not, nat_eq, nat_lt, List, filter, Option, MatchOption}
use Rattle.kin_algebra.specs.declared.sign.Sign.{Sign}
use Rattle.kin_algebra.specs.declared.sign.Sign.TheVariants.{Minus, Zero, Plus}
use Rattle.kin_motion.specs.declared.form.Form.TheVariants.{Dist}
use Rattle.kin_motion.specs.Numbers.{IsIn}
use Rattle.kin_motion.specs.Scene.{Scene}
use Rattle.kin_motion.specs.Tournaments.{Key, best_of}

-- a live number j other than i: no other one is nearer to i, and no equally near one is less
pub record IsNearestTo (s : Scene) (i j : ℕ) : Type 0 where
  pub live : IsIn j s.live
  pub other : j ≢ i
  pub nearest : (k : ℕ) → IsIn k s.live → k ≢ i → s.sign (Dist i j i k) ≢ Minus
  pub least : (k : ℕ) → IsIn k s.live → k ≢ i → k < j → s.sign (Dist i j i k) ≢ Zero

-- the nearest other live number of i, or none where no other is live
abbrev pub IsNearest : Scene → ℕ → Option ℕ → Type 0
IsNearest s i answer = MatchOption answer ((j : ℕ) → IsIn j s.live → j ≡ i) (IsNearestTo s i)

-- the left number wins where it is nearer, or equally near and less
abbrev pub left_is_closer : Sign → ℕ → ℕ → Bool
left_is_closer Plus j k = true
left_is_closer Zero j k = nat_lt j k
left_is_closer Minus j k = false

-- numbers compared by their distance from i
abbrev pub distance_from : ℕ → Key ℕ
distance_from i = record { form = λ j k. Dist i j i k; left_wins = left_is_closer }

-- the live numbers other than i
abbrev pub others_of : Scene → ℕ → List ℕ
others_of s i = filter (λ j. not (nat_eq j i)) s.live

-- the nearest other live number by computation
abbrev pub nearest_of : Scene → ℕ → Option ℕ
nearest_of s i = best_of s (distance_from i) (others_of s i)
