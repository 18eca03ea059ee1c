use Rattle.std.proofs.Common.{◌≡◌, List, ℕ, ◌≤◌, length, refl, sym, ap, ◌∙◌, subst}
use Rattle.std.specs.Prelude.{insert, remove}
use Rattle.kin_list.specs.Listing.{lasting, without}
use Rattle.kin_list.proofs.ListLaws.{without-absent, without-remove, insert-remove, place-remove}
use Rattle.kin_wedge.proofs.rows.Row.take_in.Goals as goal
use Rattle.kin_wedge.proofs.rows.Row.take_in.Goals.{In-Enters, In-Some}

-- the row is the list without the number that has entered
others : (c : In-Enters) → c.args.self.now ≡ without c.in-Enters.no c.args.list.now.items
others c = c.requires.others ∙ ap (λ m. lasting m c.args.list.now.items) c.in-Enters.is

-- the number was taken out at its place
taken : (c : In-Some) → c.args.self.now ≡ remove c.args.list.now.items c.in-Some.place
taken c = others (goal.at.In-Some c).In-Enters ∙ sym (without-remove c.in-Some.place c.in-Enters.no c.args.list.now.items c.requires.once c.in-Some.ensures.some)

pub returns-in_default-place_of : goal.returns-in_default-place_of
returns-in_default-place_of c = others (goal.at.returns-in_default-place_of c).In-Enters ∙ without-absent c.in-Enters.no c.args.list.now.items (c.in_default-place_of.ensures.none.0 refl)

pub insert-requires : goal.insert-requires
insert-requires c =
    let row_is = c.self.view_is ∙ taken (goal.at.insert-requires c).In-Some in
    subst (λ (n : ℕ). c.in-Some.place ≤ n) (ap length (sym row_is) ∙ sym c.self.inside.numbers.ok.0) (place-remove c.in-Some.place c.in-Enters.no c.args.list.now.items c.in-Some.ensures.some)

pub returns : goal.returns
returns c =
    let row_is = c.self.view_is ∙ taken (goal.at.returns c).In-Some in
    c.in-Ok.ensures.items ∙ ap (λ (l : List ℕ). insert l c.in-Some.place c.in-Enters.no) row_is ∙ insert-remove c.in-Some.place c.in-Enters.no c.args.list.now.items c.in-Some.ensures.some
