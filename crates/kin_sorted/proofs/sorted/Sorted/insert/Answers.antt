use Rattle.std.proofs.Common.{sym, ap, ◌∙◌, subst, [], ◌<◌}
use Rattle.kin_motion.specs.Numbers.{is_in}
use Rattle.kin_sorted.specs.Marks.{Marks, AreMarks, marked}
use Rattle.kin_sorted.specs.Repairs.{IsHeld}
use Rattle.kin_sorted.specs.Rows.{Row}
use Rattle.kin_sorted.proofs.MarkLaws.{entering_sound}
use Rattle.kin_sorted.proofs.sorted.Sorted.insert.Goals as goal

pub invariant_of-self-2 : goal.invariant_of-self-2
invariant_of-self-2 g c =
    let k = c.self.inside in
    let row = k.lineup.row in
    let within = rw (sym c.self.view_is) at c.requires.within in
    let low : c.slot-slot.result < row.room = subst (λ n. c.slot-slot.result < n) (sym c.self.invariant.room) (subst (λ n. n < (g.R.Ranked.ranks k.rank).slots) (sym c.slot-slot.ensures) within) in
    let new = rw (sym c.self.view_is) at c.requires.new in
    record {
      room = ap (λ (v : Row). v.room) c.reserve.ensures ∙ c.self.invariant.room;
      marks = λ w. subst (λ (v : Row). AreMarks c.enter.new.self v.room v.items) (sym c.reserve.ensures) (subst (λ (m : Marks). AreMarks m row.room row.items) (sym c.in_ok-enter.ensures.ok)
          (entering_sound k.marks row.room row.items c.slot-slot.result (c.self.invariant.marks w) low (ap (λ n. is_in n (marked k.marks row.items)) c.slot-slot.ensures ∙ new)));
      held = λ w. subst (λ (v : Row). IsHeld (g.R.Ranked.ranks k.rank) v.links v.items v.signs [] []) (sym c.reserve.ensures) (c.self.invariant.held w);
    }
