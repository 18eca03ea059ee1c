use Rattle.std.proofs.Common.{◌≡◌, drop}
use Rattle.kin_motion.specs.Sweeps.{cell_in}
use Rattle.kin_plain.proofs.diameter.cell_in.Given as goal

abbrev pub invariant-loop-cell : goal.invariant-loop-cell
invariant-loop-cell l = cell_in l.slot l.cells ≡ cell_in l.slot (drop l.cell-index l.cells)
