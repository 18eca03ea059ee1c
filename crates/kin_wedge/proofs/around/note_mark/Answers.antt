use Rattle.std.proofs.Common.{refl, sym, subst}
use Rattle.kin_list.specs.declared.mark.Mark.{Mark}
use Rattle.kin_wedge.specs.Passages.{IsNumberOf}
use Rattle.kin_wedge.proofs.around.note_mark.Goals as goal

pub note_entering-requires-clause-slot : goal.note_entering-requires-clause-slot
note_entering-requires-clause-slot c = c.requires.slot c.in-Enters.no (subst (λ (m : Mark). IsNumberOf m c.in-Enters.no) (sym c.in-Enters.is) refl)

pub note_leaving-requires-clause-slot : goal.note_leaving-requires-clause-slot
note_leaving-requires-clause-slot c = c.requires.slot c.in-Leaves.no (subst (λ (m : Mark). IsNumberOf m c.in-Leaves.no) (sym c.in-Leaves.is) refl)
