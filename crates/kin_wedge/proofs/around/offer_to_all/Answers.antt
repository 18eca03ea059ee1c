use Rattle.std.proofs.Common.{◌≡◌, ◌∙◌, ap, subst, arith, List, Option, Some, ℕ, length}
use Rattle.std.specs.Prelude.{slice_get}
use Rattle.std.proofs.lemmas.Option.{slice_get_within}
use Rattle.kin_list.proofs.RowLaws.{is_in_from_get}
use Rattle.kin_wedge.specs.Rows.{row_of}
use Rattle.kin_wedge.specs.Seen.{rows_of}
use Rattle.kin_wedge.specs.Sides.{IsPlace}
use Rattle.kin_wedge.proofs.Entering.{to_all, to_nobody}
use Rattle.kin_wedge.proofs.around.offer_to_all.Goals as goal

pub returns-in_default-clause-offered : goal.returns-in_default-clause-offered
returns-in_default-clause-offered c =
    to_nobody (rows_of c.args.orders.now.lists.items) c.args.table.now c.args.no c.args.touches.now.all.items c.requires.alike (subst (IsPlace (row_of (rows_of c.args.orders.now.lists.items) 0) c.args.no) c.in_default.is c.place_in.ensures)

-- the place of a number that is a member
placed : (row : List ℕ) (who place : ℕ) (found : Option ℕ) → found ≡ Some place → IsPlace row who found → slice_get row place ≡ Some who
placed row who place found e h = subst (IsPlace row who) e h

pub ranks-ranks-requires-clause-member : goal.ranks-ranks-requires-clause-member
ranks-ranks-requires-clause-member c = is_in_from_get _ c.in-Some.place c.args.no (placed _ c.args.no c.in-Some.place c.place_in.result c.in-Some.is c.place_in.ensures)

pub offer_from-requires-clause-within : goal.offer_from-requires-clause-within
offer_from-requires-clause-within c =
    let w = slice_get_within _ c.in-Some.place c.args.no (placed (row_of (rows_of c.args.orders.now.lists.items) 0) c.args.no c.in-Some.place c.place_in.result c.in-Some.is c.place_in.ensures) in
    omega (arith, w)

pub offer_from-requires-2-clause-range : goal.offer_from-requires-2-clause-range
offer_from-requires-2-clause-range c =
    let w = slice_get_within _ c.in-Some.place c.args.no (placed (row_of (rows_of c.args.orders.now.lists.items) 0) c.args.no c.in-Some.place c.place_in.result c.in-Some.is c.place_in.ensures) in
    let n = ap (λ (xs : List ℕ). length xs) (c.items-end.ensures ∙ c.list.ensures.row) in
    omega (arith, w, n)

pub returns-clause-offered : goal.returns-clause-offered
returns-clause-offered c =
    to_all (rows_of c.args.orders.now.lists.items) c.args.table.now c.args.no c.offer_from.new.touches.all.items c.offer_from-2.new.touches.all.items c.in-Some.place (length c.items-end.result.now)
    c.requires.alike (ap (λ (xs : List ℕ). length xs) (c.items-end.ensures ∙ c.list.ensures.row)) c.in_ok-offer_from.ensures.offered c.in_ok-offer_from-2.ensures.touched c.in_ok-offer_from-2.ensures.offered
