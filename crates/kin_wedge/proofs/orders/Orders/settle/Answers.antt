use Rattle.std.proofs.Common.{◌≡◌, ◌∙◌, refl, sym, ap, subst, List, ℕ, ◌-◌, ◌<◌, length, arith, Some}
use Rattle.std.specs.Prelude.{slice_get, slice_index_or}
use Rattle.std.proofs.lemmas.Option.{slice_get_read}
use Rattle.kin_motion.specs.declared.fact.Placed.{Placed}
use Rattle.kin_motion.specs.Kinetics.{HasChanged}
use Rattle.kin_list.specs.Listing.{Listing}
use Rattle.kin_wedge.specs.Costs.{AreFewBelow}
use Rattle.kin_wedge.specs.Parts.{facts_from, told_to, IsResettled}
use Rattle.kin_wedge.specs.Seen.{rows_of}
use Rattle.kin_wedge.proofs.Settling.{settled_none, settled_more, settled_past, settled_all}
use Rattle.kin_wedge.proofs.Standing.{still_nought, still_quiet, quiet_all, still_marked, still_ready, still_rows, still_facts, all_resettled, failing_in, settled_untold, quiet_more}
use Rattle.kin_wedge.proofs.Stepwise.{AreMade, made_all}
use Rattle.kin_wedge.proofs.orders.Orders.settle.Goals as goal

-- the list that is settled next
next_list : (R : Listing → Listing → Type 0) (still now : List Listing) (i : ℕ) (l : Listing) → AreMade R still now i → length still ≡ 8 → i < 8 → l ≡ slice_index_or now i l → slice_get now i ≡ Some l
next_list R still now i l a n h e = let c = a.count in slice_get_read now (length now) i l refl (omega (arith, n, h, c)) e

-- it is as it was when all lists stood still
next_still : (R : Listing → Listing → Type 0) (still now : List Listing) (i : ℕ) (l : Listing) → AreMade R still now i → length still ≡ 8 → i < 8 → l ≡ slice_index_or now i l → slice_get still i ≡ Some l
next_still R still now i l a n h e = sym (a.left i (omega arith)) ∙ next_list R still now i l a n h e

pub loop-part-init : goal.loop-part-init
loop-part-init g c =
    let s = g.O.Signs.scene c.args.now.now in
    let first = c.args.self.now.lists.items in
    let still = c.stand_still.new.self.lists.items in
    let span = c.span-from.ensures in
    let from = span.from in
    let count = c.stand_still.ensures.count ∙ c.requires.count in
    let boxes = c.stand_still.new.self.told in
    record {
      within = from;
      lists = settled_past s still c.args.out.now c.args.steps.now still c.args.out.now c.args.steps.now c.span-from.result.0 0 c.span-from.result.0 (omega arith) (omega (arith, count, from)) (still_nought first still c.stand_still.ensures c.requires.nought)
          (λ part m low below here.
          let untold = span.before part below in
          settled_untold first still c.stand_still.ensures s c.args.mark c.args.failed.now c.requires.real c.requires.nought c.requires.marked c.requires.ready c.requires.failing untold.0 part m here (sym (c.in_ok-sort.ensures.told part (omega (arith, from, below, boxes))) ∙ untold.1))
          (settled_none s still c.args.out.now c.args.steps.now);
      quiet = λ part m below here untold rest. still_quiet first still c.stand_still.ensures part m here;
      mail = refl;
    }

pub settle_list-requires : goal.settle_list-requires
settle_list-requires g c =
    let s = g.O.Signs.scene c.args.now.now in
    let first = c.args.self.now.lists.items in
    let still = c.stand_still.new.self.lists.items in
    let stood = c.stand_still.ensures in
    let l = c.index_mut-list.result.now in
    let a = c.loop-part.invariant in
    let h = c.loop-part-test.true in
    let end = c.span-from.ensures.end in
    let boxes = c.stand_still.new.self.told in
    let there = next_still (IsResettled s) still c.loop-part.self.lists.items c.loop-part.part l a.lists.made (stood.count ∙ c.requires.count) (omega (arith, h, end)) c.index_mut-list.ensures.value in
    record {
      real = c.requires.real;
      ready = still_ready first still stood s c.requires.ready c.loop-part.part l there;
      failing = failing_in first still stood s c.args.mark c.args.failed.now c.requires.real c.requires.nought c.requires.marked c.requires.ready c.requires.failing c.loop-part.part l c.told.result.now there
          (c.told.ensures ∙ ap (λ (boxes : List (List Placed)). told_to boxes c.loop-part.part) a.mail ∙ c.in_ok-sort.ensures.told c.loop-part.part (omega (arith, h, end, boxes)));
    }

pub loop-part-preserved : goal.loop-part-preserved
loop-part-preserved g c =
    let s = g.O.Signs.scene c.args.now.now in
    let still = c.stand_still.new.self.lists.items in
    let l = c.index_mut-list.result.now in
    let a = c.loop-part.invariant in
    let h = c.loop-part-test.true in
    let end = c.span-from.ensures.end in
    let count = c.stand_still.ensures.count ∙ c.requires.count in
    let now = a.lists.made.count in
    let boxes = c.loop-part.self.mail.boxes.items in
    let there = next_still (IsResettled s) still c.loop-part.self.lists.items c.loop-part.part l a.lists.made count (omega (arith, h, end)) c.index_mut-list.ensures.value in
    let here = next_list (IsResettled s) still c.loop-part.self.lists.items c.loop-part.part l a.lists.made count (omega (arith, h, end)) c.index_mut-list.ensures.value in
    record {
      within = omega (arith, h, end);
      lists = settled_more s still c.args.out.now c.args.steps.now c.loop-part.self.lists.items c.loop-part.out c.settle_list.new.out c.loop-part.steps c.settle_list.new.steps c.loop-part.part l c.settle_list.new.list
          (still_nought c.args.self.now.lists.items still c.stand_still.ensures c.requires.nought) a.lists here c.in_ok-settle_list.ensures.resettled c.in_ok-settle_list.ensures.delta c.in_ok-settle_list.ensures.tests;
      quiet = quiet_more c.args.mark boxes c.loop-part.self.lists.items c.loop-part.part c.settle_list.new.list (omega (arith, h, end, count, now)) a.quiet
          (λ untold rest. c.in_ok-settle_list.ensures.quiet (c.told.ensures ∙ untold) (still_marked c.args.self.now.lists.items still c.stand_still.ensures c.args.mark c.requires.marked c.loop-part.part l there ∙ rest));
      mail = a.mail;
    }

pub returns : goal.returns
returns g c =
    let s = g.O.Signs.scene c.args.now.now in
    let first = c.args.self.now.lists.items in
    let still = c.stand_still.new.self.lists.items in
    let now = c.loop-part.self.lists.items in
    let stood = c.stand_still.ensures in
    let nought = still_nought first still stood c.requires.nought in
    let count = stood.count ∙ c.requires.count in
    let within = c.loop-part.invariant.within in
    let h = c.loop-part-test.false in
    let boxes = c.stand_still.new.self.told in
    let all = settled_past s still c.args.out.now c.args.steps.now now c.loop-part.out c.loop-part.steps (8 - c.loop-part.part) c.loop-part.part 8 (omega (arith, within)) (omega (arith, count)) nought
    (λ part m low below here.
    let untold = c.span-from.ensures.behind part (omega (arith, low, h)) below in
    settled_untold first still stood s c.args.mark c.args.failed.now c.requires.real c.requires.nought c.requires.marked c.requires.ready c.requires.failing untold.0 part m here (sym (c.in_ok-sort.ensures.told part (omega (arith, below, boxes))) ∙ untold.1))
    c.loop-part.invariant.lists in
    record {
      settled = all_resettled first still stood s now (made_all (IsResettled s) still now 8 (omega (arith, count)) all.made);
      quiet = quiet_all first still stood (IsResettled s) c.args.mark c.loop-part.self.mail.boxes.items now c.loop-part.part c.loop-part.invariant.lists.made c.loop-part.invariant.quiet;
      delta = subst (λ (fs : List Placed). HasChanged fs (facts_from 0 now) c.args.out.now c.loop-part.out) (still_facts first still stood) (settled_all s still c.args.out.now c.args.steps.now now c.loop-part.out c.loop-part.steps 8 count (omega arith) nought all);
      tests = subst (λ (rows : List (List ℕ)). AreFewBelow 8 c.args.mark rows (rows_of now) c.args.out.now c.loop-part.out c.args.steps.now c.loop-part.steps) (still_rows first still stood) (all.tests c.args.mark (still_marked first still stood c.args.mark c.requires.marked));
    }
