-- The facts of the trees of upper chains, and of a hull, determine them.
use Rattle.std.specs.Prelude.{ℕ, List}
use Rattle.kin_motion.specs.declared.fact.Placed.{Placed}
use Rattle.kin_motion.specs.Agreements.{FitsSize}
use Rattle.kin_motion.specs.Chains.{IsUpperChain, IsHullCycle}
use Rattle.kin_motion.specs.Kinetics.{AllHold, HaveSameLive}
use Rattle.kin_motion.specs.Merges.{points_under, IsTreeFact, IsHullFact}
use Rattle.kin_motion.specs.Scene.{Scene, IsReal}
use Rattle.kin_motion.specs.Sets.{ListsExactly}

-- where the same numbers are live, all with slots, and all facts of the tree of upper chains hold, each node has the chain there that it had, and the facts are those of the tree there
abbrev pub TreeIsDetermined : Type 0
TreeIsDetermined = (size : ℕ) (v w : Scene) (node : ℕ) (chain : List ℕ) (facts : List Placed) → IsReal v → IsReal w → FitsSize size v → HaveSameLive v w
    → IsUpperChain v (points_under size v node) chain → ListsExactly facts (IsTreeFact size v) → AllHold w facts
    → IsUpperChain w (points_under size w node) chain × ListsExactly facts (IsTreeFact size w)

-- where the same numbers are live, all with slots, and all facts of a hull hold, it is the hull cycle there, and the facts are those of the hull there
abbrev pub HullIsDetermined : Type 0
HullIsDetermined = (size : ℕ) (v w : Scene) (cycle : List ℕ) (facts : List Placed) → IsReal v → IsReal w → FitsSize size v → HaveSameLive v w
    → IsHullCycle v cycle → ListsExactly facts (IsHullFact size v) → AllHold w facts
    → IsHullCycle w cycle × ListsExactly facts (IsHullFact size w)
