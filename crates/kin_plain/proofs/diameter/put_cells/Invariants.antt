use Rattle.std.proofs.Common.{◌≡◌, ◌++◌, ◌*◌, drop}
use Rattle.kin_motion.specs.Sweeps.{cell_pairs_from}
use Rattle.kin_plain.proofs.diameter.put_cells.Given as goal

abbrev pub invariant-loop-place : goal.invariant-loop-place
invariant-loop-place l = l.cells.items ++ cell_pairs_from l.slot l.p l.q (drop l.place l.list) ≡ l.fn.cells.items ++ cell_pairs_from (2 * l.first_p) l.first_p l.first_q l.list
