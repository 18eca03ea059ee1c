-- The cells from a place of a sweep on.
use Rattle.std.specs.Prelude.{◌<◌, ◌^◌, List}
use Rattle.kin_motion.specs.ClosestFacts.{near}
use Rattle.kin_motion.specs.ClosestPairs.{Near}
use Rattle.kin_motion.specs.Merges.{Breakpoint}
use Rattle.kin_motion.specs.Sweeps.{cell_pairs_from}
use Rattle.kin_diameter.specs.declared.cells.Current.{Current}

-- the points have slots
pub record IsLow (c : Current) : Type 0 where
  pub slot : c.slot < 2 ^ 13
  pub upper : c.upper < 2 ^ 12
  pub lower : c.lower < 2 ^ 12

-- the pair of a cell
abbrev pub cell_at : Current → Near
cell_at c = near c.slot c.upper c.lower

-- the pairs of this cell and of all after it, where these breakpoints are left
abbrev pub cells_from : Current → List Breakpoint → List Near
cells_from c es = cell_pairs_from c.slot c.upper c.lower es
