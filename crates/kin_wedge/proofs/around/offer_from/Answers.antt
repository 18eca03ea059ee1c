use Rattle.std.proofs.Common.{◌≡◌, ◌∙◌, sym, ap, arith, List, ℕ, ◌<◌, ◌≤◌, length, get_or, Some}
use Rattle.std.specs.Prelude.{slice_get}
use Rattle.std.proofs.lemmas.Option.{slice_get-get_or}
use Rattle.kin_list.proofs.RowLaws.{is_in_from_get}
use Rattle.kin_wedge.specs.Seen.{rows_of}
use Rattle.kin_wedge.proofs.Entering.{to_more}
use Rattle.kin_wedge.proofs.around.offer_from.Goals as goal

-- the apex stands at the place at which it is read
there : (row items : List ℕ) (k to : ℕ) → items ≡ row → k < to → to ≤ length row → slice_get row k ≡ Some (get_or items k 0)
there row items k to e l w = ap (λ (xs : List ℕ). slice_get xs k) (sym e) ∙ slice_get-get_or items k 0 (let n = ap (λ (xs : List ℕ). length xs) e in omega (arith, l, w, n))

pub offer-requires-clause-slot : goal.offer-requires-clause-slot
offer-requires-clause-slot c = c.requires.members 0 _ (is_in_from_get _ c.loop-k.k _ (there _ c.items-apexes.result.now c.loop-k.k c.args.to (c.items-apexes.ensures ∙ c.list.ensures.row) c.loop-k-test.true c.requires.within))

pub loop-k-preserved : goal.loop-k-preserved
loop-k-preserved c =
    to_more (rows_of c.args.orders.now.lists.items) c.args.table.now c.args.no c.args.touches.now.all.items c.args.from c.loop-k.touches.all.items c.offer.new.self.all.items c.loop-k.k _
    c.loop-k.invariant (there _ c.items-apexes.result.now c.loop-k.k c.args.to (c.items-apexes.ensures ∙ c.list.ensures.row) c.loop-k-test.true c.requires.within) c.in_ok-offer.ensures.offered c.in_ok-offer.ensures.touched

pub returns-clause-offered : goal.returns-clause-offered
returns-clause-offered c = λ k p w o l h. c.loop-k.invariant.offered k p w o l (omega (arith, h, c.loop-k-test.false))
