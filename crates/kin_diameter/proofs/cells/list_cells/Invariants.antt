use Rattle.std.proofs.Common.{◌≡◌, ◌++◌, map, drop, reverse}
use Rattle.kin_motion.specs.Sweeps.{cell_pairs}
use Rattle.kin_diameter.specs.Cells.{IsLow, cells_from}
use Rattle.kin_diameter.specs.Seen.{seen}
use Rattle.kin_diameter.proofs.cells.list_cells.Given as goal

abbrev pub invariant-loop-at : goal.invariant-loop-at
invariant-loop-at l = record {
  low : IsLow l.current;
  listed : l.cells.items ++ cells_from l.current (map seen (drop l.at-index l.breakpoints)) ≡ cell_pairs l.upper (reverse l.lower) (map seen l.breakpoints);
}
