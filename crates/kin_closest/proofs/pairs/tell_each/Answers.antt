use Rattle.std.proofs.Common.{◌≡◌, sym, ap, ◌∙◌, subst, arith, ℕ, ◌+◌, ◌/◌, ◌%◌, ◌^◌, ◌<◌, ◌≤◌, true, set, get_or, Option}
use Rattle.std.proofs.lemmas.Nat.{pow-add}
use Rattle.std.proofs.Math.Pow.{pow_mono}
use Rattle.std.proofs.lemmas.Option.{slice_get-get_or}
use Rattle.kin_motion.specs.ClosestPairs.{Near}
use Rattle.kin_motion.specs.ClosestFacts.{near_of}
use Rattle.kin_tourney.specs.Tournament.{Tournament}
use Rattle.kin_wedge.specs.Wedging.{candidate_told}
use Rattle.kin_pairs.specs.declared.distance.Distance.{Distance}
use Rattle.kin_closest.proofs.Telling.{some_low, told_more}
use Rattle.kin_closest.proofs.pairs.tell_each.Goals as goal

apex_low : (slot size : ℕ) → slot < 2 ^ (size + 3) → slot / 8 < 2 ^ size
apex_low slot size h = let p = pow-add 2 size 3 in omega (arith, h, p)

slot_short : (slot size : ℕ) → size ≤ 12 → slot < 2 ^ (size + 3) → slot < 2 ^ 15
slot_short slot size small low =
    let up : size + 3 ≤ 15 = omega (arith, small) in
    let most : 2 ^ (size + 3) ≤ 2 ^ 15 = pow_mono up in omega (arith, low, most)

pub candidate-requires-clause-apex : goal.candidate-requires-clause-apex
candidate-requires-clause-apex c = apex_low _ _ (c.requires.within c.loop-slot.slot-index _ (slice_get-get_or c.args.slots.now c.loop-slot.slot-index 0 c.loop-slot-test.true))

pub tell-requires-clause-short : goal.tell-requires-clause-short
tell-requires-clause-short c = slot_short _ _ c.requires.small (c.requires.within c.loop-slot.slot-index _ (slice_get-get_or c.args.slots.now c.loop-slot.slot-index 0 c.loop-slot-test.true))

pub tell-requires-clause-low : goal.tell-requires-clause-low
tell-requires-clause-low c =
    let slot = get_or c.args.slots.now c.loop-slot.slot-index 0 in
    let low = c.requires.within c.loop-slot.slot-index slot (slice_get-get_or c.args.slots.now c.loop-slot.slot-index 0 c.loop-slot-test.true) in
    some_low (2 ^ 12) c.candidate.result (λ q e. c.requires.low (slot / 8) (slot % 8) q (apex_low slot c.args.wedges.now.size low) (omega arith) (sym c.candidate.ensures.told ∙ e))

pub tell-requires-clause-slot : goal.tell-requires-clause-slot
tell-requires-clause-slot c =
    subst (λ (n : ℕ). get_or c.args.slots.now c.loop-slot.slot-index 0 < 2 ^ n) (sym (ap (λ (t : Tournament Distance Near). t.size) c.loop-slot.invariant.same ∙ c.requires.size))
    (c.requires.within c.loop-slot.slot-index _ (slice_get-get_or c.args.slots.now c.loop-slot.slot-index 0 c.loop-slot-test.true))

pub loop-slot-preserved : goal.loop-slot-preserved
loop-slot-preserved c =
    let slot = get_or c.args.slots.now c.loop-slot.slot-index 0 in
    let here = slice_get-get_or c.args.slots.now c.loop-slot.slot-index 0 c.loop-slot-test.true in
    let low : slot < 2 ^ c.args.pairs.now.size = subst (λ (n : ℕ). get_or c.args.slots.now c.loop-slot.slot-index 0 < 2 ^ n) (sym c.requires.size) (c.requires.within c.loop-slot.slot-index _ here) in
    told_more (candidate_told c.args.wedges.now) c.args.slots.now c.args.pairs.now c.loop-slot.pairs c.tell.new.pairs c.loop-slot.slot-index slot here
    (subst (λ (n : ℕ). get_or c.args.slots.now c.loop-slot.slot-index 0 < n) (sym (c.loop-slot.invariant.slots_room ∙ c.requires.slots_room)) low)
    (subst (λ (n : ℕ). get_or c.args.slots.now c.loop-slot.slot-index 0 < n) (sym (c.loop-slot.invariant.marks_room ∙ c.requires.marks_room)) low)
    c.loop-slot.invariant
    (subst (λ (r : Option ℕ). c.tell.new.pairs ≡ record c.loop-slot.pairs { slots = set c.loop-slot.pairs.slots (get_or c.args.slots.now c.loop-slot.slot-index 0) (near_of (get_or c.args.slots.now c.loop-slot.slot-index 0) (get_or c.args.slots.now c.loop-slot.slot-index 0 / 8) r); marked = set c.loop-slot.pairs.marked (get_or c.args.slots.now c.loop-slot.slot-index 0) true; winners = c.tell.new.pairs.winners }) c.candidate.ensures.told c.tell.ensures)
