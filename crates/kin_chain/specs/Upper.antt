-- What holds of the points that stay in a set, and of its upper chain, as statements.
use Rattle.std.specs.Prelude.{◌≡◌, ◌≢◌, ℕ, List, ◌∷◌, IsTrue}
use Rattle.kin_algebra.specs.declared.sign.Sign.TheVariants.{Minus, Zero}
use Rattle.kin_motion.specs.declared.form.Form.TheVariants.{Turn, Slope}
use Rattle.kin_motion.specs.Numbers.{IsIn}
use Rattle.kin_motion.specs.Scene.{Scene, IsReal, x_sign}
use Rattle.kin_motion.specs.Chains.{is_left, is_bare, IsUpperChain}
use Rattle.kin_motion.specs.Merges.{last_of}
use Rattle.kin_motion.specs.Cells.{above_left, above_right}

-- the point is of the set, and nothing of the set keeps it off
abbrev pub StaysIn : Scene → List ℕ → ℕ → Type 0
StaysIn s set p = IsIn p set × IsTrue (is_bare s set p)

-- p is at least as high as q along the step from i to j
abbrev pub IsAsHigh : Scene → ℕ → ℕ → ℕ → ℕ → Type 0
IsAsHigh s i j p q = s.sign (Slope i j p q) ≢ Minus

-- two different points that stay have different x
abbrev pub DifferentX : Type 0
DifferentX = (s : Scene) (set : List ℕ) (p q : ℕ) → IsReal s → StaysIn s set p → StaysIn s set q → x_sign s p q ≡ Zero → p ≡ q

-- three points that stay turn right, from left to right
abbrev pub TurningRight : Type 0
TurningRight = (s : Scene) (set : List ℕ) (p q r : ℕ) → IsReal s → StaysIn s set p → StaysIn s set q → StaysIn s set r → IsTrue (is_left s p q) → IsTrue (is_left s q r) → s.sign (Turn p q r) ≡ Minus

-- what stays in a set stays in each part of it that has it
abbrev pub SmallerSet : Type 0
SmallerSet = (s : Scene) (set part : List ℕ) (p : ℕ) → ((i : ℕ) → IsIn i part → IsIn i set) → StaysIn s set p → IsIn p part → StaysIn s part p

-- best point: along each step to the right every point of the set has one of its chain that is at least as high
abbrev pub BestPoint : Type 0
BestPoint = (s : Scene) (set chain : List ℕ) (i j q : ℕ) → IsReal s → IsUpperChain s set chain → IsTrue (is_left s i j) → IsIn q set → (c : ℕ) × IsIn c chain × IsAsHigh s i j c q

-- end points: no point of the set lies farther left than the first of its chain, or straight above it, and none farther right than the last, or straight above it
abbrev pub EndPoints : Type 0
EndPoints = (s : Scene) (set : List ℕ) (p : ℕ) (ps : List ℕ) (q : ℕ) → IsReal s → IsUpperChain s set (p ∷ ps) → IsIn q set → (above_left s p q ≢ Minus) × (above_right s (last_of p ps) q ≢ Minus)
