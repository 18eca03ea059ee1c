-- What a kept sweep is to its callers.
use Rattle.std.specs.Prelude.{List, map}
use Rattle.kin_motion.specs.declared.fact.Placed.{Placed}
use Rattle.kin_motion.specs.Merges.{Breakpoint}
use Rattle.kin_diameter.specs.declared.breakpoint.Breakpoint.{Breakpoint as Pair}
use Rattle.kin_diameter.specs.declared.slope.Slope.{Slope as Kept}
use Rattle.kin_diameter.specs.Seen.{seen, slope_fact}

-- the breakpoints of both chains, and the slopes of neighbours of different chains as facts
pub record Sweeping : Type 0 where
  pub breakpoints : List Breakpoint
  pub facts : List Placed

-- what is kept in these lists
abbrev pub sweeping : List Pair → List Kept → Sweeping
sweeping es kept = record { breakpoints = map seen es; facts = map slope_fact kept }
