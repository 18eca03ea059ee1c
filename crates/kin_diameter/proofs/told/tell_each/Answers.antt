use Rattle.std.proofs.Common.{sym, ap, subst, ◌<◌, ◌^◌}
use Rattle.kin_motion.specs.ClosestPairs.{Near}
use Rattle.kin_motion.specs.Tournaments.{item_in}
use Rattle.kin_tourney.specs.Tournament.{Tournament}
use Rattle.kin_pairs.specs.declared.farness.Farness.{Farness}
use Rattle.kin_diameter.proofs.Placing.{cell_within}
use Rattle.kin_diameter.proofs.Telling.{place_here, told_next, told_all}
use Rattle.kin_diameter.proofs.told.tell_each.Goals as goal

pub bounds-places-slot : goal.bounds-places-slot
bounds-places-slot c = subst (λ m. c.slot-slot.result < m) (sym c.requires.places_room) (cell_within _ c.args.cells.now c.loop-cell.cell-index _ c.cell-item.result c.requires.within c.loop-cell-test.true c.cell-item.is c.slot-slot.ensures)

pub tell-requires : goal.tell-requires
tell-requires c =
    subst (λ m. c.slot-slot.result < 2 ^ m) (sym (ap (λ (t : Tournament Farness Near). t.size) c.loop-cell.invariant.told.same))
    (cell_within _ c.args.cells.now c.loop-cell.cell-index _ c.cell-item.result c.requires.within c.loop-cell-test.true c.cell-item.is c.slot-slot.ensures)

pub loop-cell-preserved : goal.loop-cell-preserved
loop-cell-preserved c =
    let inside : c.slot-slot.result < 2 ^ c.args.tourney.now.size = cell_within _ c.args.cells.now c.loop-cell.cell-index _ c.cell-item.result c.requires.within c.loop-cell-test.true c.cell-item.is c.slot-slot.ensures in
    told_next (item_in c.args.places.now) c.args.cells.now c.args.tourney.now _ c.loop-cell.tourney c.tell.new.tourney c.loop-cell.cell-index c.slot-slot.result c.cell-item.result c.index-places-slot.result
    c.requires.within c.requires.slots_room c.requires.marks_room c.loop-cell-test.true c.cell-item.is c.slot-slot.ensures
    (place_here c.args.places.now c.slot-slot.result c.index-places-slot.result (subst (λ m. c.slot-slot.result < m) (sym c.requires.places_room) inside) c.index-places-slot.is)
    c.loop-cell.invariant c.tell.ensures

pub returns-clause-held : goal.returns-clause-held
returns-clause-held c = told_all (item_in c.args.places.now) c.args.cells.now c.args.tourney.now c.loop-cell.tourney c.loop-cell.cell-index c.loop-cell-test.false c.loop-cell.invariant
