-- What one list has and another doesn't.
use Rattle.std.specs.Prelude.{◌≡◌, List, ◌++◌, map, Contains}
use Rattle.kin_motion.specs.declared.fact.Placed.{Placed}
use Rattle.kin_diameter.specs.declared.slope.Slope.{Slope as Kept}
use Rattle.kin_diameter.specs.Seen.{slope_fact}

-- the fact is that of a slope of the first list alone
abbrev pub IsLost : List Kept → List Kept → Placed → Type 0
IsLost old new p = Contains (map slope_fact old) p × ¬ (Contains (map slope_fact new) p)

-- the fact is that of this slope, which the list doesn't have
abbrev pub IsLostOne : List Kept → Kept → Placed → Type 0
IsLostOne others x p = (p ≡ slope_fact x) × ¬ (Contains others x)

-- both lists have the same at their front and at their end; between that they are these
abbrev pub DifferBetween : {A : Type 0} → List A → List A → List A → List A → Type 0
DifferBetween {A} old new olds news = (front end : List A) × (old ≡ front ++ (olds ++ end)) × (new ≡ front ++ (news ++ end))
