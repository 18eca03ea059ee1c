-- The first failure of several facts.
use Rattle.std.specs.Prelude.{List, [], ◌∷◌, ◌++◌, Option, Some, None, Contains}
use Rattle.kin_num.specs.declared.instant.Moment.{Moment}
use Rattle.kin_motion.specs.Live.{Certificate}
use Rattle.kin_motion.specs.Scene.{Scene}
use Rattle.kin_fail.specs.Failures.{IsFirstFailure, NeverFails}
use Rattle.kin_fail.proofs.LeastFailure.{IsLeast}

-- the first moment at which one of these facts doesn't hold, or none where all of them always do
abbrev pub IsLeastFailure : (Moment → Scene) → Moment → List Certificate → Option Moment → Type 0
IsLeastFailure scene now cs None = (c : Certificate) → Contains cs c → NeverFails scene now c.placed.fact
IsLeastFailure scene now cs (Some m) = IsLeast scene now cs m

-- where the first is the first failure of some facts, and the second that of one more fact, the third is that of all of them
abbrev pub JoinsFailures : Option Moment → Option Moment → Option Moment → Type 0
JoinsFailures one other both =
    (scene : Moment → Scene) (now : Moment) (cs : List Certificate) (c : Certificate) → IsLeastFailure scene now cs one
    → IsFirstFailure scene now c.placed.fact other → IsLeastFailure scene now (cs ++ c ∷ []) both
