use Rattle.std.proofs.Common.{sym, subst, ◌<◌}
use Rattle.kin_diameter.proofs.Placing.{cell_within, laid_next, laid_all}
use Rattle.kin_diameter.proofs.places.lay_out.Goals as goal

pub bounds-places-slot : goal.bounds-places-slot
bounds-places-slot c = subst (λ m. c.slot.result < m) (sym c.loop-cell.invariant.room) (cell_within _ c.args.cells.now c.loop-cell.cell-index _ c.cell-item.result c.requires.within c.loop-cell-test.true c.cell-item.is c.slot.ensures)

pub loop-cell-preserved : goal.loop-cell-preserved
loop-cell-preserved c = laid_next c.args.cells.now c.args.places.now c.loop-cell.places c.loop-cell.cell-index c.slot.result c.cell-item.result c.requires.within c.loop-cell-test.true c.cell-item.is c.slot.ensures c.loop-cell.invariant

pub returns-clause-held : goal.returns-clause-held
returns-clause-held c = laid_all c.args.cells.now c.args.places.now c.loop-cell.places c.loop-cell.cell-index c.loop-cell-test.false c.loop-cell.invariant
