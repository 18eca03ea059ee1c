use Rattle.std.proofs.Common.{refl, sym, ap, ◌∙◌, subst, [], true}
use Rattle.kin_sorted.specs.Links.{facts_from}
use Rattle.kin_sorted.specs.Marks.{Marks, AreMarks}
use Rattle.kin_sorted.specs.Repairs.{IsHeld}
use Rattle.kin_sorted.specs.Rows.{Row}
use Rattle.kin_sorted.specs.Sorting.{unmarked}
use Rattle.kin_sorted.proofs.MarkLaws.{no_marks}
use Rattle.kin_sorted.proofs.WholeLaws.{empty_held, empty_facts}
use Rattle.kin_sorted.proofs.sorted.Sorted.new.Goals as goal

pub invariant_of-result : goal.invariant_of-result
invariant_of-result g c =
    let row = c.in_ok-lineup.ensures.row in
    record {
      room = ap (λ (w : Row). w.room) row ∙ c.slots-room.ensures;
      marks = λ w. subst (λ (m : Marks). AreMarks m c.in_ok-lineup.lineup.row.room c.in_ok-lineup.lineup.row.items) (sym c.new-2.ensures)
          (subst (λ (v : Row). AreMarks unmarked v.room v.items) (sym row) (no_marks c.slots-room.result [] tt));
      held = λ w. subst (λ (v : Row). IsHeld (g.R.Ranked.ranks c.args.rank) v.links v.items v.signs [] []) (sym row) (empty_held (g.R.Ranked.ranks c.args.rank) c.slots-room.result _ _ refl);
    }

pub returns : goal.returns
returns g c =
    let row = c.in_ok-lineup.ensures.row in
    let items = ap (λ (v : Row). v.items) row in
    let facts = ap (λ (v : Row). facts_from (g.R.Ranked.ranks c.args.rank) 0 v.links) row ∙ empty_facts (g.R.Ranked.ranks c.args.rank) c.slots-room.result _ refl in
    let swaps = c.in_ok-lineup.ensures.swaps in
    let marks = c.new-2.ensures in
    λ t. record { rank = c.args.rank; items = items t; facts = facts t; swaps = swaps t; marks = marks t; whole = true }
