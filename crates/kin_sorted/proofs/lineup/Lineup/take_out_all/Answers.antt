use Rattle.std.proofs.Common.{◌≡◌, refl, sym, ap, ◌∙◌, subst, arith, List, [], ℕ, get_or, length, inl, inr}
use Rattle.std.proofs.lemmas.Bool.{both_ways}
use Rattle.std.proofs.lemmas.Option.{slice_get-get_or}
use Rattle.kin_algebra.proofs.Results.{for_ok, at_ok}
use Rattle.kin_algebra.specs.declared.sign.Sign.{Sign}
use Rattle.kin_motion.specs.Numbers.{is_in}
use Rattle.kin_sorted.specs.Repairs.{NeedTwo, AreGaps, IsThinned}
use Rattle.kin_sorted.proofs.HeldLaws.{thinned_start, thinned_more, held_thinned}
use Rattle.kin_sorted.proofs.ListLaws.{without_none}
use Rattle.kin_sorted.proofs.PutLaws.{still_there, one_less}
use Rattle.kin_sorted.proofs.RowLaws.{is_in_from_get}
use Rattle.kin_sorted.proofs.lineup.Lineup.take_out_all.Goals as goal

pub loop-slot-init : goal.loop-slot-init
loop-slot-init c = record {
  items = sym (without_none c.args.self.now.row.items);
  thinned = λ r links held. thinned_start r links c.args.self.now.row.items c.args.self.now.row.signs c.args.self.now.touched.items c.requires.cleared.1 held;
  few = let e = ap length c.requires.cleared.1 in omega arith;
  doubts = refl;
  swaps = refl;
  room = refl;
  links = refl;
}

pub take_out-requires : goal.take_out-requires
take_out-requires c =
    let who = get_or c.args.leaving.now c.loop-slot.slot-index 0 in
    let at = slice_get-get_or c.args.leaving.now c.loop-slot.slot-index 0 c.loop-slot-test.true in
    still_there c.args.leaving.now c.loop-slot.slot-index who at c.requires.once c.args.self.now.row.items c.loop-slot.self.row.items c.loop-slot.invariant.items
    (c.requires.members who (is_in_from_get c.args.leaving.now c.loop-slot.slot-index who at))

pub loop-slot-preserved : goal.loop-slot-preserved
loop-slot-preserved c =
    let who = get_or c.args.leaving.now c.loop-slot.slot-index 0 in
    let at = slice_get-get_or c.args.leaving.now c.loop-slot.slot-index 0 c.loop-slot-test.true in
    let taken = c.in_ok-take_out.ensures.taken in
    let few = c.loop-slot.invariant.few in
    let more = taken.few in
    record {
      items = one_less c.args.leaving.now c.loop-slot.slot-index who at c.requires.once c.args.self.now.row.items c.loop-slot.self.row.items c.take_out.new.self.row.items c.loop-slot.self.touched.items c.take_out.new.self.touched.items c.loop-slot.invariant.items taken;
      thinned = λ r links held. subst (λ (ts : List Sign). IsThinned r links c.take_out.new.self.row.items ts c.take_out.new.self.touched.items) (sym c.take_out.ensures.signs)
          (thinned_more r links who c.loop-slot.self.row.items c.take_out.new.self.row.items c.loop-slot.self.row.signs c.loop-slot.self.touched.items c.take_out.new.self.touched.items taken
          (c.loop-slot.invariant.thinned r links held));
      few = omega (arith, few, more);
      doubts = c.take_out.ensures.doubts ∙ c.loop-slot.invariant.doubts;
      swaps = c.take_out.ensures.swaps ∙ c.loop-slot.invariant.swaps;
      room = c.take_out.ensures.room ∙ c.loop-slot.invariant.room;
      links = c.take_out.ensures.links ∙ c.loop-slot.invariant.links;
    }

gaps_two : (items touched before doubts : List ℕ) → before ≡ [] → AreGaps items touched before doubts → NeedTwo doubts items
gaps_two items touched before doubts none gaps x h = elim (gaps.two x h) [
  | inl o ↦ absurd (both_ways _ (ap (is_in x) none) o)
  | inr l ↦ l
]

pub returns-clause-held : goal.returns-clause-held
returns-clause-held c = for_ok c.doubt_gaps.result _ (λ v e. λ r links held.
    held_thinned r links c.loop-slot.self.row.items c.loop-slot.self.row.signs c.loop-slot.self.touched.items c.loop-slot.self.doubts c.doubt_gaps.new.doubts
    (subst (λ (ts : List ℕ). AreGaps c.loop-slot.self.row.items ts c.loop-slot.self.doubts c.doubt_gaps.new.doubts) c.deref.ensures.value (at_ok c.doubt_gaps.result _ v e c.doubt_gaps.ensures))
    (c.loop-slot.invariant.thinned r links held))
