use Rattle.std.proofs.Common.{◌≡◌, sym, ◌∙◌, subst, List, ℕ, Some}
use Rattle.std.specs.Prelude.{slice_get}
use Rattle.kin_motion.proofs.SetLaws.{apart_from_once}
use Rattle.kin_sorted.proofs.ListLaws.{without-remove}
use Rattle.kin_sorted.proofs.RowLaws.{is_in_from_get}
use Rattle.kin_sorted.proofs.marks.take_from.Goals as goal

pub returns-in-Some-clause-found : goal.returns-in-Some-clause-found
returns-in-Some-clause-found c = sym (is_in_from_get c.args.list.now.items c.in-Some.place c.args.slot
    (subst (λ (xs : List ℕ). slice_get xs c.in-Some.place ≡ Some c.args.slot) c.deref.ensures.value c.in-Some.ensures.some))

pub returns-in-Some-clause-taken : goal.returns-in-Some-clause-taken
returns-in-Some-clause-taken c = λ t.
    c.remove.ensures.items
    ∙ without-remove c.in-Some.place c.args.slot c.args.list.now.items (apart_from_once c.args.list.now.items c.requires)
    (subst (λ (xs : List ℕ). slice_get xs c.in-Some.place ≡ Some c.args.slot) c.deref.ensures.value c.in-Some.ensures.some)
