-- A structure that is made of several has the facts of each in parts of its own.
use Rattle.std.specs.Prelude.{ℕ, ◌+◌, ℤ, Bool, List, map, ◌↔◌}
use Rattle.kin_motion.specs.declared.fact.Placed.{Placed}
use Rattle.kin_motion.specs.Sets.{ListsExactly}
use Rattle.kin_motion.specs.Deltas.{Change}
use Rattle.kin_motion.specs.Scene.{Scene}
use Rattle.kin_motion.specs.Orders.{IsOrderFact}
use Rattle.kin_motion.specs.Kinetics.{HasChanged, ListsFailing}

-- the same fact, n parts further on
abbrev pub moved_by : ℕ → Placed → Placed
moved_by n p = record { part = n + p.part; fact = p.fact }

-- a report of facts that are moved
abbrev pub moved_change : ℕ → Change → Change
moved_change n c = record { dropped = map (moved_by n) c.dropped; born = map (moved_by n) c.born }

-- what changed of the facts is, moved, what changed of the moved facts
abbrev pub MovedFactsChange : Type 0
MovedFactsChange = (n : ℕ) (old new : List Placed) (before after : Change) → HasChanged old new before after
    → HasChanged (map (moved_by n) old) (map (moved_by n) new) (moved_change n before) (moved_change n after)

-- which of the facts fail is, moved, which of the moved facts fail
abbrev pub MovedFactsFail : Type 0
MovedFactsFail = (n : ℕ) (facts failed : List Placed) (is_spared : Placed → Bool) (s : Scene)
    → ListsFailing facts (λ p. is_spared (moved_by n p)) s failed ↔ ListsFailing (map (moved_by n) facts) is_spared s (map (moved_by n) failed)

-- the facts of an order, moved, are those of the order in its part
abbrev pub MovedOrderFacts : Type 0
MovedOrderFacts = (s : Scene) (dx dy : ℤ) (part : ℕ) (facts : List Placed) → ListsExactly facts (IsOrderFact s dx dy 0) → ListsExactly (map (moved_by part) facts) (IsOrderFact s dx dy part)
