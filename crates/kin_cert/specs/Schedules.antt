-- How a schedule lies in memory: a queue, and a side list of ids that are all due at one moment. No public clause cites this module.
use Rattle.std.specs.Prelude.{◌≡◌, ℕ, List, [], ◌∷◌, Some, None, Contains}
use Rattle.std.specs.Ordering.{nat_cmp}
use Rattle.std.specs.Coded.{Coded, coded_ℕ}
use Rattle.std.specs.FinMap as map
use Rattle.std.specs.FinMap.{FinMap}
use Rattle.kin_num.specs.declared.instant.Shape.{Shape}
use Rattle.kin_num.specs.declared.instant.Phase.TheVariants.{After}
use Rattle.kin_num.specs.declared.instant.Moment.{Moment}
use Rattle.kin_num.specs.contracts.instant.Moment as moment
use Rattle.kin_num.specs.Canonical.{IsCanonical}
use Rattle.kin_motion.specs.Kinetics.{AreDistinct}

abbrev pub schedule_code : Coded (FinMap nat_cmp Moment)
schedule_code = map.code coded_ℕ moment.the_row.coded

-- the moment just after an instant
abbrev pub just_after : Shape → Moment
just_after at = record { at = at; phase = After }

-- the map with each of these ids at the moment
abbrev pub with_each : FinMap nat_cmp Moment → Moment → List ℕ → FinMap nat_cmp Moment
with_each moments at [] = moments
with_each moments at (id ∷ ids) = map.insert (with_each moments at ids) id at

-- each of these ids is listed once, and has no moment in the map, whose moments are canonical
pub record AreBeside (moments : FinMap nat_cmp Moment) (ids : List ℕ) : Type 0 where
  pub canonical : (id : ℕ) (at : Moment) → map.get moments id ≡ Some at → IsCanonical at.at
  pub once : AreDistinct ids
  pub absent : (id : ℕ) → Contains ids id → map.get moments id ≡ None
