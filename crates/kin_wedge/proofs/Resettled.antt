-- The lists after a settle.
use Rattle.std.proofs.Common.{◌≡◌, ◌⊎◌, inl, inr, refl, sym, ap, ap₂, ◌∙◌, subst, arith, List, [], ◌∷◌, ℕ, suc, ◌+◌, ◌^◌, ◌<◌, ◌≤◌, true, false, map, length, Some, Option, ℤ}
use Rattle.std.specs.Prelude.{Contains, slice_get}
use Rattle.std.proofs.lemmas.Bool.{cases_lt}
use Rattle.std.proofs.lemmas.List.{length-map}
use Rattle.std.proofs.lemmas.Option.{slice_get_within}
use Rattle.kin_algebra.proofs.Places.{get_within}
use Rattle.kin_motion.specs.declared.fact.Placed.{Placed}
use Rattle.kin_motion.specs.ClosestFacts.{IsWedgeFact}
use Rattle.kin_motion.specs.Contents.{IsSettledWedges}
use Rattle.kin_motion.specs.Laws.{HasLineLaws}
use Rattle.kin_motion.specs.Numbers.{is_in}
use Rattle.kin_motion.specs.Octants.{Direction, octants, direction_of, AreCandidates}
use Rattle.kin_motion.specs.Orders.{IsOrder, IsOrderFact}
use Rattle.kin_motion.specs.Parts.{moved_by}
use Rattle.kin_motion.specs.Scene.{Scene, IsReal}
use Rattle.kin_motion.specs.Sets.{AreDistinct, ListsExactly}
use Rattle.kin_motion.proofs.NearLaws.{octant_at}
use Rattle.kin_motion.proofs.PartLaws.{moved_order_facts, moved_one}
use Rattle.kin_motion.proofs.RealLaws.{real_line_laws}
use Rattle.kin_motion.proofs.SetLaws.{contains_mapped, distinct_append, distinct_mapped, distinct_none}
use Rattle.kin_list.specs.declared.mark.Mark.{Mark}
use Rattle.kin_list.specs.declared.mark.Mark.TheVariants.{Rest, Enters, Leaves, Broken}
use Rattle.kin_list.specs.Listing.{Listing, HasMarked, staying, lasting}
use Rattle.kin_list.specs.Rows.{exchanged}
use Rattle.kin_list.proofs.ListLaws.{not_in-without}
use Rattle.kin_wedge.specs.Parts.{EachTo, IsResettled, facts_from, swaps_of}
use Rattle.kin_wedge.specs.Passages.{AreAnswered, AreBeside, IsPassage}
use Rattle.kin_wedge.specs.Rows.{row_of, AreAlike, AreOrders, AreRanked, AreRows, HaveSlots}
use Rattle.kin_wedge.specs.Seen.{rows_of}
use Rattle.kin_wedge.specs.Sides.{AreParted}
use Rattle.kin_wedge.specs.Wedging.{Wedging, candidate_at, members_of, AreKept, AreWedges, IsListOf, IsMarkable}
use Rattle.kin_motion.proofs.SameOctants.{way_known, way_of}
use Rattle.kin_wedge.proofs.AllRows.{items_there, swaps_there, row_past}
use Rattle.kin_wedge.proofs.Keeping.{kept_marked, wedging}
use Rattle.kin_wedge.proofs.Parting.{AllAtNought, among_part, fact_there, has_fact, here_in, here_out}
use Rattle.kin_wedge.proofs.OctantSides.{parted}
use Rattle.kin_wedge.proofs.Posted.{nought_settled}
use Rattle.kin_wedge.proofs.Readiness.{list_ready, live_below}
use Rattle.kin_wedge.proofs.Scenes.{row_apart, third_behind, ranked, candidate, none_of_others}
use Rattle.kin_wedge.proofs.Told.{held_as_told}

-- no exchange of nothing
nothing : (mark : Mark) → exchanged [] (staying mark []) ≡ lasting mark []
nothing Rest = refl
nothing (Enters i) = refl
nothing (Leaves i) = refl
nothing Broken = refl

-- the facts of all lists, each once
distinct_facts : (n : ℕ) (lists : List Listing) → AllAtNought lists → ((part : ℕ) (l : Listing) → slice_get lists part ≡ Some l → AreDistinct l.facts) → AreDistinct (facts_from n lists)
distinct_facts n [] nought once = distinct_none
distinct_facts n (l ∷ ls) nought once =
    distinct_append (map (moved_by n) l.facts) (facts_from (n + 1) ls) (distinct_mapped (moved_by n) l.facts (moved_one n) (once 0 l refl)) (distinct_facts (n + 1) ls (λ part m e. nought (suc part) m e) (λ part m e. once (suc part) m e))
    (λ p a b.
    let m = contains_mapped (moved_by n) l.facts p a in
    let z = nought 0 l refl m.0 m.1 in
    let e : p.part ≡ n + m.0.part = ap (λ (q : Placed). q.part) m.2 in
    let f = among_part (n + 1) ls p (λ part k g. nought (suc part) k g) b in
    omega (arith, z, e, f))

-- eight lists that may settle in a scene
pub record MaySettle (s : Scene) (size : ℕ) (mark : Mark) (lists : List Listing) (rows : List (List ℕ)) (candidates : List (Option ℕ)) : Type 0 where
  pub real : IsReal s
  pub known : AreWedges size mark lists rows candidates
  pub ready : HasMarked mark (row_of (rows_of lists) 0) s.live

pub may_settle : {s : Scene} {size : ℕ} {mark : Mark} {lists : List Listing} {rows : List (List ℕ)} {candidates : List (Option ℕ)} {changed : List ℕ} {facts : List Placed} {k : Wedging}
    → IsReal s → AreWedges size mark lists rows candidates → wedging size candidates changed mark (rows_of lists) facts ≡ k → HasMarked k.mark (members_of k) s.live → MaySettle s size mark lists rows candidates
may_settle {s = s} real known is ready = record { real = real; known = known; ready = subst (λ (v : Wedging). HasMarked v.mark (members_of v) s.live) (sym is) ready }

module _ {s : Scene} {size : ℕ} {mark : Mark} {old : List Listing} {rows : List (List ℕ)} {candidates : List (Option ℕ)} (may : MaySettle s size mark old rows candidates) where
  pub kept : AreKept size mark old rows candidates
  kept = kept_marked size mark old rows candidates (row_of (rows_of old) 0) s.live may.ready may.known.kept

  pub lists_ready : (part : ℕ) (l : Listing) → slice_get old part ≡ Some l → HasMarked l.mark l.items s.live
  lists_ready = list_ready size mark old rows candidates kept s.live may.ready

module _ {s : Scene} {size : ℕ} {mark : Mark} {old new : List Listing} {rows : List (List ℕ)} {candidates : List (Option ℕ)} (may : MaySettle s size mark old rows candidates) (e : EachTo (IsResettled s) old new) where
  k : AreKept size mark old rows candidates
  k = kept may

  laws : HasLineLaws s
  laws = real_line_laws s may.real

  count : length new ≡ 8
  count = e.count ∙ k.count

  -- the list of a part, as it was and as it is
  was : (part : ℕ) (m : Listing) → slice_get new part ≡ Some m → (l : Listing) × (slice_get old part ≡ Some l)
  was part m f = get_within old part (let w = slice_get_within new part m f in let c = e.count in omega (arith, w, c))

  there : (part : ℕ) → part < 8 → (m : Listing) × (slice_get new part ≡ Some m)
  there part h = get_within new part (let c = count in omega (arith, h, c))

  list_of : (part : ℕ) (m : Listing) → slice_get new part ≡ Some m → IsListOf size Rest part m
  list_of part m f =
      let l = was part m f in
      let o = k.each part l.0 l.1 in
      let r = e.each part l.0 m l.1 f in
      record { dx = r.same.0 ∙ o.dx; dy = r.same.1 ∙ o.dy; room = r.same.2 ∙ o.room; marked = r.rest; nought = nought_settled m s r.settled }

  order_in : (part : ℕ) (m : Listing) → slice_get new part ≡ Some m → IsOrder s (direction_of part).dx (direction_of part).dy m.items
  order_in part m f =
      let l = was part m f in
      let o = list_of part m f in
      subst (λ (x : ℤ). IsOrder s x (direction_of part).dy m.items) o.dx (subst (λ (y : ℤ). IsOrder s m.dx y m.items) o.dy (e.each part l.0 m l.1 f).settled.order)

  pub orders : AreOrders s (rows_of new)
  orders = record {
    count = length-map new (λ (x : Listing). x.items) ∙ count;
    order = λ part h. let m = there part h in subst (IsOrder s (direction_of part).dx (direction_of part).dy) (sym (items_there new part m.0 m.1)) (order_in part m.0 m.1);
  }

  row_empty : (part : ℕ) → 8 ≤ part → row_of (rows_of new) part ≡ []
  row_empty part h = let n = orders.count in row_past (rows_of new) part (omega (arith, h, n))

  -- the members of each list are the live numbers
  pub live : (part i : ℕ) → is_in i (row_of (rows_of new) part) ≡ true → is_in i s.live ≡ true
  live part i h = at (cases_lt part 8)
    where
      at : (part < 8) ⊎ (8 ≤ part) → is_in i s.live ≡ true
      at (inl w) = sym ((orders.order part w).all.same i) ∙ h
      at (inr w) = absurd (let f : false ≡ true = sym (ap (is_in i) (row_empty part w)) ∙ h in cc)

  pub rows_now : AreRows (rows_of new)
  rows_now = record { count = orders.count; apart = λ part. at part (cases_lt part 8) }
    where
      at : (part : ℕ) → (part < 8) ⊎ (8 ≤ part) → AreDistinct (row_of (rows_of new) part)
      at part (inl w) = row_apart s laws (rows_of new) orders part w
      at part (inr w) = subst AreDistinct (sym (row_empty part w)) distinct_none

  pub ranked_now : AreRanked (rows_of new)
  ranked_now = record {
    behind = λ w p q o here h. third_behind s laws (rows_of new) orders w o here p q h;
    ranked = λ w p a b o here h g. ranked s laws (rows_of new) orders w o here p a b h g;
  }

  pub parted_now : AreParted (rows_of new)
  parted_now = parted s laws (rows_of new) orders

  pub alike_now : AreAlike (rows_of new)
  alike_now part i h = (orders.order part h).all.same i ∙ sym ((orders.order 0 (omega arith)).all.same i)

  below : (i : ℕ) → is_in i s.live ≡ true → i < 2 ^ size
  below = live_below size mark old rows candidates k s.live may.ready

  pub slots_now : HaveSlots (rows_of new) (length candidates)
  slots_now part i h = let b = below i (live part i h) in let n = may.known.slots in omega (arith, b, n)

  beside : (n : Mark) → HasMarked n (row_of (rows_of old) 0) s.live → IsMarkable size n (row_of (rows_of old) 0) → AreBeside n rows (rows_of new)
  beside Rest h t = tt
  beside (Enters i) h t = λ part. ap (λ (rs : List (List ℕ)). is_in i (row_of rs part)) k.same ∙ at part (cases_lt part 8)
    where
      at : (part : ℕ) → (part < 8) ⊎ (8 ≤ part) → is_in i (row_of (rows_of old) part) ≡ false
      at part (inl w) = k.alike part i w ∙ t.1
      at part (inr w) = ap (is_in i) (row_past (rows_of old) part (let c = length-map old (λ (x : Listing). x.items) in let d = k.count in omega (arith, w, c, d)))
  beside (Leaves i) h t = λ part. at part (cases_lt part 8)
    where
      at : (part : ℕ) → (part < 8) ⊎ (8 ≤ part) → is_in i (row_of (rows_of new) part) ≡ false
      at part (inl w) = (orders.order part w).all.same i ∙ sym (h.same i) ∙ not_in-without i (row_of (rows_of old) 0)
      at part (inr w) = ap (is_in i) (row_empty part w)
  beside Broken h t = tt

  pub passage : IsPassage mark (swaps_of new) rows (rows_of new)
  passage = record { exchanges = λ part. at part (cases_lt part 8); beside = beside mark may.ready k.markable }
    where
      at : (part : ℕ) → (part < 8) ⊎ (8 ≤ part) → exchanged (row_of (swaps_of new) part) (staying mark (row_of rows part)) ≡ lasting mark (row_of (rows_of new) part)
      at part (inl w) =
          let m = there part w in
          let l = was part m.0 m.1 in
          let r = e.each part l.0 m.0 l.1 m.1 in
          let marked = (k.each part l.0 l.1).marked in
          ap₂ (λ (sw xs : List ℕ). exchanged sw (staying mark xs)) (swaps_there new part m.0 m.1) (ap (λ (rs : List (List ℕ)). row_of rs part) k.same ∙ items_there old part l.0 l.1)
          ∙ ap (λ (n : Mark). exchanged m.0.swaps (staying n l.0.items)) (sym marked)
          ∙ r.exchanges
          ∙ ap (λ (n : Mark). lasting n m.0.items) marked
          ∙ ap (lasting mark) (sym (items_there new part m.0 m.1))
      at part (inr w) =
          let c = length-map new (λ (x : Listing). x.swaps) in
          let d = count in
          let n = length-map old (λ (x : Listing). x.items) in
          let o = k.count in
          ap₂ (λ (sw xs : List ℕ). exchanged sw (staying mark xs)) (row_past (swaps_of new) part (omega (arith, w, c, d))) (ap (λ (rs : List (List ℕ)). row_of rs part) k.same ∙ row_past (rows_of old) part (omega (arith, w, n, o)))
          ∙ nothing mark
          ∙ ap (lasting mark) (sym (row_empty part w))

  nought_now : AllAtNought new
  nought_now part m f = (list_of part m f).nought

  -- the facts of a list, moved to its part
  facts_in : (part : ℕ) (m : Listing) → slice_get new part ≡ Some m → ListsExactly (map (moved_by part) m.facts) (IsOrderFact s (direction_of part).dx (direction_of part).dy part)
  facts_in part m f =
      let l = was part m f in
      let o = list_of part m f in
      moved_order_facts s (direction_of part).dx (direction_of part).dy part m.facts
      (subst (λ (x : ℤ). ListsExactly m.facts (IsOrderFact s x (direction_of part).dy 0)) o.dx (subst (λ (y : ℤ). ListsExactly m.facts (IsOrderFact s m.dx y 0)) o.dy (e.each part l.0 m l.1 f).settled.exact))

  pub exact_now : ListsExactly (facts_from 0 new) (IsWedgeFact s)
  exact_now = record {
    once = distinct_facts 0 new nought_now (λ part m f. let l = was part m f in (e.each part l.0 m l.1 f).settled.exact.once);
    each = λ p. (to p, from p);
  }
    where
      to : (p : Placed) → Contains (facts_from 0 new) p → IsWedgeFact s p
      to p c =
          let h = has_fact new p nought_now c in
          let w = slice_get_within new p.part h.0 h.1 in
          let n = count in
          record { way = direction_of p.part; known = way_known p.part (omega (arith, w, n)); fact = ((facts_in p.part h.0 h.1).each p).0 (here_out new p.part h.0 p h.1 refl h) }

      from : (p : Placed) → IsWedgeFact s p → Contains (facts_from 0 new) p
      from p f =
          let d = way_of p.part f.way f.known in
          let own = subst (λ (way : Direction). IsOrderFact s way.dx way.dy p.part p) d.1 f.fact in
          let m = there p.part d.0 in
          fact_there new p (here_in new p.part m.0 p m.1 (nought_now p.part m.0 m.1) (((facts_in p.part m.0 m.1).each p).1 own)).1

  -- where all slots are answered, the candidates are the definition's
  module _ (after : List (Option ℕ)) (same : length after ≡ length candidates) (answered : AreAnswered (rows_of new) after) where
    pub candidates_now : AreCandidates size s (candidate_at after)
    candidates_now = record {
      of_live = λ p w o l here.
          let b = below p l in
          let low = slice_get_within octants w o here in
          candidate s laws (rows_of new) orders w o here p (candidate_at after p w) l (answered p w o (candidate_at after p w) here (held_as_told size after (same ∙ may.known.slots) p w b low));
      of_others = λ p w b low n.
          let o = octant_at w low in
          none_of_others s laws (rows_of new) orders w o.0 o.1 p (candidate_at after p w) n (answered p w o.0 (candidate_at after p w) o.1 (held_as_told size after (same ∙ may.known.slots) p w b low));
    }

    pub wedges_now : IsSettledWedges s size (candidate_at after) (facts_from 0 new)
    wedges_now = record { candidates = candidates_now; exact = exact_now }

    pub kept_now : (rows' : List (List ℕ)) → rows' ≡ rows_of new → AreWedges size Rest new rows' after
    kept_now rows' f = record {
      small = may.known.small;
      slots = same ∙ may.known.slots;
      kept = record {
        count = count;
        each = list_of;
        same = f;
        once = λ part h. (orders.order part h).all.once;
        alike = alike_now;
        below = λ i h. below i (live 0 i h);
        answered = answered;
        markable = tt;
      };
    }
