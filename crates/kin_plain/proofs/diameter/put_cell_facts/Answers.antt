use Rattle.std.proofs.Common.{◌∙◌}
use Rattle.kin_plain.proofs.Sweeping.{cells_may, cell_slots_count}
use Rattle.kin_plain.proofs.diameter.put_cell_facts.Goals as goal

pub put_tournament_facts-requires-clause-count : goal.put_tournament_facts-requires-clause-count
put_tournament_facts-requires-clause-count g c = cell_slots_count c.args.size c.deref.result.now c.deref-2.result.now (c.deref-2.ensures.value ∙ c.in_ok-slots.ensures)

pub put_tournament_facts-requires-clause-may : goal.put_tournament_facts-requires-clause-may
put_tournament_facts-requires-clause-may g c =
    cells_may (g.O.Signs.scene c.args.now.now).live c.args.size c.args.upper.now c.args.back.now c.args.list.now c.deref.result.now c.deref-2.result.now c.requires.upper_live c.requires.back_live
    c.requires.list_live
    (c.deref.ensures.value ∙ c.in_ok-cells.ensures) (c.deref-2.ensures.value ∙ c.in_ok-slots.ensures)
