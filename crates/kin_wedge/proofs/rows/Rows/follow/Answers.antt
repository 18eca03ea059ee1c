use Rattle.std.proofs.Common.{◌≡◌, ◌∙◌, refl, sym, ap, subst, List, Option, None, ℕ, ◌+◌, ◌*◌, ◌-◌, ◌<◌, length, arith}
use Rattle.std.proofs.lemmas.Option.{slice_get_read}
use Rattle.kin_list.specs.declared.mark.Mark.{Mark}
use Rattle.kin_list.specs.Listing.{Listing, staying, lasting}
use Rattle.kin_list.specs.Rows.{exchanged}
use Rattle.kin_wedge.specs.declared.rows.Rows.{Rows}
use Rattle.kin_wedge.specs.declared.touch.Touch.{Touch}
use Rattle.kin_wedge.specs.declared.touch.Touches.{Touches}
use Rattle.kin_wedge.specs.Parts.{swaps_of}
use Rattle.kin_wedge.specs.Passages.{AreAllLookedUp}
use Rattle.kin_wedge.specs.Rows.{row_of, WereExchanged}
use Rattle.kin_wedge.specs.Seen.{rows_of}
use Rattle.kin_wedge.specs.Touched.{HasTouched, HasOfferedBoth}
use Rattle.kin_wedge.proofs.AllRows.{AreFollowed, followed_none, followed_more, followed_still, followed_past, followed_rows, followed_offers, row_there, swaps_there}
use Rattle.kin_wedge.proofs.Touching.{touched_none}
use Rattle.kin_wedge.proofs.rows.Rows.follow.Goals as goal
use Rattle.kin_wedge.proofs.rows.Rows.follow.Goals.{then-not-stands_still+in_ok-follow, else-not-stands_still}

-- the same of the rows and touches that they have become
as_they_are : (mark : Mark) (lists : List Listing) (candidates : List (Option ℕ)) (old now next : List (List ℕ)) (first ts us : List Touch) (i : ℕ) → next ≡ now → us ≡ ts → AreFollowed mark lists candidates old now first ts i → AreFollowed mark lists candidates old next first us i
as_they_are mark lists candidates old now next first ts us i e f a = subst (λ (rs : List (List ℕ)). AreFollowed mark lists candidates old rs first us i) (sym e) (subst (λ (vs : List Touch). AreFollowed mark lists candidates old now first vs i) (sym f) a)

pub loop-part-init : goal.loop-part-init
loop-part-init c =
    let from = c.span-from.ensures.from in
    let n = c.requires.count in
    let m = c.requires.rows in
    record {
      within = from;
      followed = followed_past c.args.mark c.args.orders.now.lists.items c.args.table.now c.args.self.now.rows.items c.args.touches.now.all.items c.args.self.now.rows.items c.look_up_all.new.touches.all.items c.span-from.result.0 0 c.span-from.result.0 (omega arith) (omega (arith, n, from)) (omega (arith, n, m))
          (λ part l low below here. let still = c.span-from.ensures.before part below in (still.0, c.requires.quiet part l here still.1 still.0)) c.requires.exchanges (followed_none c.args.mark c.args.orders.now.lists.items c.args.table.now c.args.self.now.rows.items c.args.touches.now.all.items c.look_up_all.new.touches.all.items c.in_ok-is_looked_up.ensures.touched);
      looked_up = c.in_ok-is_looked_up.ensures.all;
    }

pub follow-requires-clause-exchanges : goal.follow-requires-clause-exchanges
follow-requires-clause-exchanges c =
    let a = c.loop-part.invariant.followed in
    let n = a.count in
    let m = c.requires.rows in
    let t = c.loop-part-test.true in
    let end = c.span-from.ensures.end in
    let within : c.loop-part.part < length c.loop-part.self.rows.items = omega (arith, n, m, t, end) in
    let row = c.index_mut-row.result.now in
    let here = slice_get_read c.loop-part.self.rows.items (length c.loop-part.self.rows.items) c.loop-part.part row refl within c.index_mut-row.ensures.value in
    let row_is = sym (row_there c.loop-part.self.rows.items c.loop-part.part row here) ∙ a.left c.loop-part.part (omega arith) in
    let swaps = row_of (swaps_of c.args.orders.now.lists.items) c.loop-part.part in
    ap (λ (sw : List ℕ). exchanged sw (staying c.args.mark row)) (sym (swaps_there c.args.orders.now.lists.items c.loop-part.part c.list-list.result.now c.list-list.ensures.list))
    ∙ ap (λ (r : List ℕ). exchanged swaps (staying c.args.mark r)) row_is
    ∙ c.requires.exchanges c.loop-part.part
    ∙ ap (lasting c.args.mark) (sym c.list-list.ensures.row)

-- what is looked up stays so
stays : (rows : List (List ℕ)) (candidates : List (Option ℕ)) (first ts us : List Touch) → us ≡ ts → HasTouched candidates first ts → AreAllLookedUp rows first → AreAllLookedUp rows us
stays rows candidates first ts us e t all = subst (AreAllLookedUp rows) (sym e) (λ i there w low. t.keeps (8 * i + w) None (all i there w low))

pub loop-part-preserved : goal.loop-part-preserved
loop-part-preserved c = record {
  looked_up = λ yes.
      let rows = rows_of c.args.orders.now.lists.items in
      let table = c.args.table.now in
      let all = c.loop-part.invariant.looked_up yes in
      elim c.if-not-stands_still.branch [
        | then-not-stands_still+in_ok-follow w ↦ stays rows table _ _ _ (ap (λ (x : Touches). x.all.items) w.touches-is) w.in_ok-follow.ensures.touched all
        | else-not-stands_still w ↦ stays rows table _ _ _ (ap (λ (x : Touches). x.all.items) w.touches-is) (touched_none table _) all
      ];
  within = let t = c.loop-part-test.true in let end = c.span-from.ensures.end in omega (arith, t, end);
  followed =
      let a = c.loop-part.invariant.followed in
      let n = a.count in
      let m = c.requires.rows in
      let t = c.loop-part-test.true in
      let end = c.span-from.ensures.end in
      let within : c.loop-part.part < length c.loop-part.self.rows.items = omega (arith, n, m, t, end) in
      elim c.if-not-stands_still.branch [
        | then-not-stands_still+in_ok-follow w ↦
            let here = slice_get_read c.loop-part.self.rows.items (length c.loop-part.self.rows.items) c.loop-part.part w.index_mut-row.result.now refl within w.index_mut-row.ensures.value in
            as_they_are c.args.mark c.args.orders.now.lists.items c.args.table.now c.args.self.now.rows.items _ _ c.args.touches.now.all.items _ _ (c.loop-part.part + 1) (ap (λ (r : Rows). r.rows.items) w.self-is) (ap (λ (x : Touches). x.all.items) w.touches-is)
            (followed_more c.args.mark c.args.orders.now.lists.items c.args.table.now c.args.self.now.rows.items c.args.touches.now.all.items c.loop-part.self.rows.items w.follow.new.self c.loop-part.touches.all.items w.follow.new.touches.all.items c.loop-part.part c.list-list.result.now
            c.list-list.ensures.list within a w.in_ok-follow.ensures.row
            (subst (λ (r : List ℕ). (a b : ℕ) → WereExchanged c.list-list.result.now.swaps (staying c.args.mark r) a b → HasOfferedBoth (rows_of c.args.orders.now.lists.items) c.args.table.now c.loop-part.part a b w.follow.new.touches.all.items)
            (sym (row_there c.loop-part.self.rows.items c.loop-part.part w.index_mut-row.result.now here)) w.in_ok-follow.ensures.offered)
            w.in_ok-follow.ensures.touched)
        | else-not-stands_still w ↦
            let still = c.stands_still.ensures w.if-not-stands_still.false in
            as_they_are c.args.mark c.args.orders.now.lists.items c.args.table.now c.args.self.now.rows.items _ _ c.args.touches.now.all.items _ _ (c.loop-part.part + 1) (ap (λ (r : Rows). r.rows.items) w.self-is) (ap (λ (x : Touches). x.all.items) w.touches-is)
            (followed_still c.args.mark c.args.orders.now.lists.items c.args.table.now c.args.self.now.rows.items c.args.touches.now.all.items c.loop-part.self.rows.items c.loop-part.touches.all.items c.loop-part.part c.list-list.result.now
            c.list-list.ensures.list within a (c.requires.exchanges c.loop-part.part) still.0 still.1)
      ];
}

pub returns : goal.returns
returns c =
    let within = c.loop-part.invariant.within in
    let h = c.loop-part-test.false in
    let n = c.requires.count in
    let m = c.requires.rows in
    let a = c.loop-part.invariant.followed in
    let k = a.count in
    let all = followed_past c.args.mark c.args.orders.now.lists.items c.args.table.now c.args.self.now.rows.items c.args.touches.now.all.items c.loop-part.self.rows.items c.loop-part.touches.all.items (8 - c.loop-part.part) c.loop-part.part 8 (omega (arith, within)) (omega (arith, n)) (omega (arith, n, m, k))
    (λ part l low below here. let still = c.span-from.ensures.behind part (omega (arith, low, h)) below in (still.0, c.requires.quiet part l here still.1 still.0)) c.requires.exchanges a in
    record {
      rows = followed_rows c.args.mark c.args.orders.now.lists.items c.args.table.now c.args.self.now.rows.items c.args.touches.now.all.items c.loop-part.self.rows.items c.loop-part.touches.all.items 8 m n (omega arith) all;
      offered = followed_offers c.args.mark c.args.orders.now.lists.items c.args.table.now c.args.self.now.rows.items c.args.touches.now.all.items c.loop-part.self.rows.items c.loop-part.touches.all.items 8 n (omega arith) all;
      touched = all.touched;
    }
