-- What holds of the definitions.
use Rattle.std.specs.Prelude.{◌≡◌, ◌↔◌, ℕ, ℤ, List}
use Rattle.kin_motion.specs.declared.fact.Placed.{Placed}
use Rattle.kin_motion.specs.Kinetics.{AllHold, HaveSameLive}
use Rattle.kin_motion.specs.Numbers.{IsOnce}
use Rattle.kin_motion.specs.Orders as points
use Rattle.kin_motion.specs.Scene.{Scene, IsReal}
use Rattle.kin_motion.specs.Sets.{ListsExactly}
use Rattle.kin_motion.specs.BoxEnds.{ends}
use Rattle.kin_motion.specs.BoxFacts.{IsEndFact, IsEndOrder, ends_of}
use Rattle.kin_motion.specs.Directions.{along}
use Rattle.kin_motion.specs.Rankings.{IsRanking}
use Rattle.kin_motion.specs.Ranks.{Ranks, AreLive, IsOrder, IsOrderFact, order_of, order_facts}

-- there is one order at most
abbrev pub OneRankedOrder : Type 0
OneRankedOrder = (s : Scene) (r : Ranks) (set xs ys : List ℕ) → IsReal s → IsRanking r → AreLive s r set → IsOrder s r set xs → IsOrder s r set ys → xs ≡ ys

-- `order_of` is the order
abbrev pub RankedOrderAgrees : Type 0
RankedOrderAgrees = (s : Scene) (r : Ranks) (set : List ℕ) → IsReal s → IsRanking r → AreLive s r set → IsOnce set → IsOrder s r set (order_of s r set)

-- `order_facts` lists exactly the facts of the order
abbrev pub RankedFactsAgree : Type 0
RankedFactsAgree = (s : Scene) (r : Ranks) (set : List ℕ) → IsReal s → IsRanking r → AreLive s r set → IsOnce set
    → ListsExactly (order_facts s r set) (IsOrderFact s r set)

-- where the same numbers are live and all facts of an order hold, it is the order there, and the facts are those of the order there
abbrev pub RankedOrderIsDetermined : Type 0
RankedOrderIsDetermined = (v w : Scene) (r : Ranks) (xs : List ℕ) (facts : List Placed) → IsReal v → IsReal w → IsRanking r → HaveSameLive v w → AreLive v r xs
    → IsOrder v r xs xs → ListsExactly facts (IsOrderFact v r xs) → AllHold w facts → IsOrder w r xs xs × ListsExactly facts (IsOrderFact w r xs)

-- along a direction the order of the live numbers and its facts are those of points
abbrev pub OrderIsThatOfPoints : Type 0
OrderIsThatOfPoints = (s : Scene) (slots : ℕ) (dx dy : ℤ) → ((xs : List ℕ) → IsOrder s (along slots dx dy) s.live xs ↔ points.IsOrder s dx dy xs) ×
    ((p : Placed) → IsOrderFact s (along slots dx dy) s.live p ↔ points.IsOrderFact s dx dy 0 p)

-- along an axis the order of the ends of all boxes and its facts are those of the ends as ranked items
abbrev pub OrderIsThatOfEnds : Type 0
OrderIsThatOfEnds = (s : Scene) (count : ℕ) (dx dy size : ℤ)
    → ((xs : List ℕ) → IsOrder s (ends count dx dy size) (ends_of s.live) xs ↔ IsEndOrder s dx dy size xs)
    × ((p : Placed) → IsOrderFact s (ends count dx dy size) (ends_of s.live) p ↔ IsEndFact s dx dy size 0 p)
