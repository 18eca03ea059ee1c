use Rattle.std.proofs.Common.{sym, ap, ◌∙◌, subst, List, ◌++◌, ℕ, ◌+◌, drop}
use Rattle.std.proofs.Math.ListN.{drop_of_length-le}
use Rattle.std.proofs.lemmas.List.{append-nil}
use Rattle.kin_motion.specs.Edits.{Edit, edited, all_edited, dropped_by, AreFitting}
use Rattle.kin_overlay.proofs.InTurnLaws.{fits_next, led_next, noted_next}
use Rattle.kin_overlay.proofs.edit.carry_out.Goals as goal

pub carry_out-requires : goal.carry_out-requires
carry_out-requires c = record { fits = (fits_next c.args.edits.now c.loop-edit.edit-index c.edit-item.result c.edit-item.is c.loop-edit-test.true c.loop-edit.list.items c.loop-edit.invariant.fit).0 }

pub loop-edit-preserved : goal.loop-edit-preserved
loop-edit-preserved c =
    let es = c.args.edits.now in
    let k = c.loop-edit.edit-index in
    let e = c.edit-item.result in
    let xs = c.loop-edit.list.items in
    let list = c.in_ok-carry_out.ensures.list in
    let left = drop (k + 1) es in
    record {
      fit = subst (λ (ys : List ℕ). AreFitting left ys) (sym list) (fits_next es k e c.edit-item.is c.loop-edit-test.true xs c.loop-edit.invariant.fit).1;
      led = ap (λ (ys : List ℕ). all_edited left ys) list ∙ led_next es k e c.edit-item.is c.loop-edit-test.true xs ∙ c.loop-edit.invariant.led;
      noted =
          ap (λ (ys : List ℕ). c.carry_out.new.gone.items ++ dropped_by left ys) list
          ∙ ap (λ (gone : List ℕ). gone ++ dropped_by left (edited e xs)) c.in_ok-carry_out.ensures.gone
          ∙ noted_next es k e c.edit-item.is c.loop-edit-test.true xs c.loop-edit.gone.items
          ∙ c.loop-edit.invariant.noted;
    }

pub returns-clause-list : goal.returns-clause-list
returns-clause-list c =
    let none = drop_of_length-le c.args.edits.now c.loop-edit-test.false in
    ap (λ (l : List Edit). all_edited l c.loop-edit.list.items) (sym none) ∙ c.loop-edit.invariant.led

pub returns-clause-gone : goal.returns-clause-gone
returns-clause-gone c =
    let none = drop_of_length-le c.args.edits.now c.loop-edit-test.false in
    let gone = c.loop-edit.gone.items in
    sym (append-nil gone) ∙ ap (λ (l : List Edit). gone ++ dropped_by l c.loop-edit.list.items) (sym none) ∙ c.loop-edit.invariant.noted
