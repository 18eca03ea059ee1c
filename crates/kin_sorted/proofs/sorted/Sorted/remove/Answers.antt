use Rattle.std.proofs.Common.{sym, ap, ◌∙◌, subst}
use Rattle.kin_motion.specs.Numbers.{is_in}
use Rattle.kin_sorted.specs.Marks.{Marks, AreMarks, marked}
use Rattle.kin_sorted.proofs.MarkLaws.{leaving_sound}
use Rattle.kin_sorted.proofs.sorted.Sorted.remove.Goals as goal

pub invariant_of-self-2 : goal.invariant_of-self-2
invariant_of-self-2 g c =
    let k = c.self.inside in
    let row = k.lineup.row in
    let member = rw (sym c.self.view_is) at c.requires.member in
    record {
      room = c.self.invariant.room;
      marks = λ w. subst (λ (m : Marks). AreMarks m row.room row.items) (sym c.in_ok-leave.ensures.ok)
          (leaving_sound k.marks row.room row.items c.slot-slot.result (c.self.invariant.marks w) (ap (λ n. is_in n (marked k.marks row.items)) c.slot-slot.ensures ∙ member));
      held = c.self.invariant.held;
    }
