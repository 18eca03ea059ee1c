-- What holds of the corners of a hull, as statements.
use Rattle.std.specs.Prelude.{◌≡◌, ◌≢◌, ◌⊎◌, ℕ, ◌+◌, ◌%◌, ◌<◌, ◌≤◌, List, length, Option, Some, slice_get}
use Rattle.kin_algebra.specs.declared.sign.Sign.TheVariants.{Minus, Zero, Plus}
use Rattle.kin_motion.specs.declared.form.Form.TheVariants.{Turn}
use Rattle.kin_motion.specs.Chains.{IsHullCycle}
use Rattle.kin_motion.specs.Numbers.{IsIn, IsOnce}
use Rattle.kin_motion.specs.Scene.{Scene, IsReal, x_sign, y_sign}

-- of the live points with the x of p none is above it
abbrev pub IsHighestOnVertical : Scene → ℕ → Type 0
IsHighestOnVertical s p = (q : ℕ) → IsIn q s.live → x_sign s p q ≡ Zero → y_sign s p q ≢ Plus

-- of the live points with the x of p none is below it
abbrev pub IsLowestOnVertical : Scene → ℕ → Type 0
IsLowestOnVertical s p = (q : ℕ) → IsIn q s.live → x_sign s p q ≡ Zero → y_sign s p q ≢ Minus

-- of the live points with one x only the highest and the lowest can be corners
abbrev pub CornersEndVerticals : Type 0
CornersEndVerticals = (s : Scene) (cycle : List ℕ) (p : ℕ) → IsReal s → IsHullCycle s cycle → IsIn p cycle → IsHighestOnVertical s p ⊎ IsLowestOnVertical s p

-- of three corners with one x two are the same
abbrev pub TwoHaveOneX : Type 0
TwoHaveOneX = (s : Scene) (cycle : List ℕ) (p q r : ℕ) → IsReal s → IsHullCycle s cycle → IsIn p cycle → IsIn q cycle → IsIn r cycle → x_sign s p q ≡ Zero → x_sign s q r ≡ Zero → (p ≡ q) ⊎ (q ≡ r) ⊎ (p ≡ r)

-- any three corners turn left, in the order of the cycle
abbrev pub CornersTurnLeft : Type 0
CornersTurnLeft =
    (s : Scene) (cycle : List ℕ) (i j k p q r : ℕ) → IsReal s → IsHullCycle s cycle → i < j → j < k
    → slice_get cycle i ≡ Some p → slice_get cycle j ≡ Some q → slice_get cycle k ≡ Some r → s.sign (Turn p q r) ≡ Plus

-- the corner at a place, where the cycle is gone around again and again
abbrev pub corner_at : List ℕ → ℕ → Option ℕ
corner_at cycle i = slice_get cycle (i % length cycle)

-- any three that follow each other around turn left, where there are three
abbrev pub NeighboursTurnLeft : Type 0
NeighboursTurnLeft =
    (s : Scene) (cycle : List ℕ) (i p q r : ℕ) → IsReal s → IsHullCycle s cycle → 3 ≤ length cycle
    → corner_at cycle i ≡ Some p → corner_at cycle (i + 1) ≡ Some q → corner_at cycle (i + 2) ≡ Some r → s.sign (Turn p q r) ≡ Plus

-- no live point is to the right of an edge, which goes from a corner to the next one around
abbrev pub EdgesHaveAllLeft : Type 0
EdgesHaveAllLeft =
    (s : Scene) (cycle : List ℕ) (i p q r : ℕ) → IsReal s → IsHullCycle s cycle
    → corner_at cycle i ≡ Some p → corner_at cycle (i + 1) ≡ Some q → IsIn r s.live → s.sign (Turn p q r) ≢ Minus

-- no number is in a hull cycle twice
abbrev pub CyclesListOnce : Type 0
CyclesListOnce = (s : Scene) (cycle : List ℕ) → IsReal s → IsHullCycle s cycle → IsOnce cycle

-- no live point is to the left of p
abbrev pub IsLeftmost : Scene → ℕ → Type 0
IsLeftmost s p = (q : ℕ) → IsIn q s.live → x_sign s p q ≢ Minus

-- a hull cycle begins at the lowest of the leftmost points
abbrev pub CyclesBeginLeftmost : Type 0
CyclesBeginLeftmost = (s : Scene) (cycle : List ℕ) (p : ℕ) → IsReal s → IsHullCycle s cycle → slice_get cycle 0 ≡ Some p → IsLeftmost s p × IsLowestOnVertical s p

-- where a point is live, a hull cycle has a corner
abbrev pub CyclesHaveCorners : Type 0
CyclesHaveCorners = (s : Scene) (cycle : List ℕ) (q : ℕ) → IsReal s → IsHullCycle s cycle → IsIn q s.live → 0 < length cycle
