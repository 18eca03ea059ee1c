-- A number comes or goes, and one structure after another carries the mark out. Going is coming turned round: the motions that have the number are then those before.
use Rattle.kin_world.proofs.Vocabulary.{rules, ◌≡◌, inl, inr, refl, sym, ap, ◌∙◌, arith, ℕ, ◌<◌, ◌≤◌, ◌^◌, ◌⊎◌, true, false, List, length, slice_set, Option, Some, None, is_some, slice_get, Contains, get_or-set_same, set-set, set-get_or}
use Rattle.kin_world.proofs.Vocabulary.{All-contains, slice_get_within, AreSlow, Course, is_live, live_of, motion_of, IsAskable, IsSmallKeep, owned_by, Holds, Scene, scene_at, Placed, Keep, Facts, LiveFact, IsTimed, placed_facts, AreLiveAfter}
use Rattle.kin_world.proofs.Vocabulary.{HoldFor, IsSettledFor, HasGoneOn, HasGoneOver, HasOneMore, HasUpdated, IsCarriedOut, IsInOrder, IsInPlace, IsMarked, IsSound, Stage, sight, with_marked, Structure}
use Rattle.std.specs.Prelude.{take}
use Rattle.std.proofs.lemmas.List.{get_or_past}
use Rattle.kin_motion.proofs.MotionLaws.{slow-clear}
use Rattle.kin_world.specs.declared.structure.Mark.{Mark}
use Rattle.kin_world.specs.declared.structure.Mark.TheVariants.{Enters, Leaves}
use Rattle.kin_world.proofs.InOrder.{all_hold, by_age, owner, replaced, restated, seen_anew, timed, timed_new, timely_from_timed}
use Rattle.kin_world.proofs.OneMore.{one_more, same_room, sign_alike, timed_same}
use Rattle.kin_world.proofs.SoundLaws.{live_askable}
use Rattle.kin_world.proofs.StructureLaws.{settled_holds, settled_askable}
use Rattle.kin_world.specs.Structures.{MayCarryOut}
use Rattle.kin_world.proofs.Vocabulary.{subst, get_within}
use Rattle.kin_world.proofs.RepairLaws.{needs_met}

-- a number that is live has a motion
pub motion_there : (o : Option Course) → is_some o ≡ true → (c : Course) × (o ≡ Some c)
motion_there None live = absurd cc
motion_there (Some c) live = (c, refl)

-- and is below the length
pub live_within : (ms : List (Option Course)) (i : ℕ) → is_live ms i ≡ true → i < length ms
live_within ms i live = grind (arith, get_or_past)

-- every live fact is seen as before, and the number may enter
pub may_insert : {s : Stage} (sound : IsSound s) (entering : ℕ) (c : Course) (motions : List (Option Course)) → is_live s.motions entering ≡ false → entering < 2 ^ s.size → motions ≡ slice_set s.motions entering (Some c) → AreSlow motions
    → IsMarked (Enters entering) 0 s.motions (record s { motions = motions })
may_insert {s} sound entering c motions free low written slow =
    let one : HasOneMore entering s.motions motions = record { free = free; motion = c; is = written } in
    let in_order : IsInOrder (HasGoneOver s.size 0 (sight s) (scene_at motions s.moment)) (record s { motions = motions }) =
    seen_anew sound.in_order motions s.moment (same_room one) slow sound.in_order.canonical (λ j keep st kept there was. record { done = λ less. absurd (omega (arith, less)); ahead = λ more. was.fine })
    (λ l there. timely_from_timed (scene_at motions) s.moment l ((timed_same one s.moment l (live_askable sound l there)).0 (timed sound.in_order sound.none_waits l there))) in
    search rules

-- the number may leave
pub may_remove : {s : Stage} (sound : IsSound s) (leaving : ℕ) (motions : List (Option Course)) → is_live s.motions leaving ≡ true → leaving < 2 ^ s.size → motions ≡ slice_set s.motions leaving None
    → IsMarked (Leaves leaving) 0 s.motions (record s { motions = motions })
may_remove {s} sound leaving motions live low written =
    let had = motion_there (motion_of s.motions leaving) live in
    let back : slice_set (slice_set s.motions leaving None) leaving (Some had.0) ≡ s.motions = set-set s.motions leaving None (Some had.0) ∙ rw (← had.1) (set-get_or s.motions leaving None) in
    record {
      in_order = restated sound.in_order (λ j keep st kept there was. record { done = λ less. absurd (omega (arith, less)); ahead = λ more. was.fine });
      none_waits = sound.none_waits;
      room = low;
      changed = record { free = rw written (ap is_some (get_or-set_same s.motions leaving None None (rw sound.in_order.fit.room low))); motion = had.0; is = rw written (sym back) };
      slow = rw written (slow-clear s.motions leaving sound.in_order.fit.slow);
    }

-- the live numbers have changed as the mark says
pub live_after : (mark : Mark) {k : ℕ} {before : List (Option Course)} {s : Stage} → IsMarked mark k before s → AreLiveAfter mark (live_of before) (live_of s.motions)
live_after (Enters n) h = one_more h.changed (rw (← same_room h.changed, h.in_order.fit.room) h.room)
live_after (Leaves n) h = one_more h.changed (rw (← same_room h.changed, h.in_order.fit.room) h.room)

-- of the structure that is next each fact holds, but for those that name a number that leaves
pub hold_for : (mark : Mark) {k : ℕ} {before : List (Option Course)} {s : Stage} → IsMarked mark k before s → (keep : Keep) (st : Structure) → IsInPlace (HasGoneOver s.size k (scene_at before s.moment) (sight s)) s.table.live k keep st → slice_get s.keeps k ≡ Some keep
    → HoldFor mark (placed_facts st) (sight s)
hold_for (Enters n) {k} h keep st place kept = all_hold h.in_order h.none_waits k (placed_facts st) place.tabled
hold_for (Leaves n) {k} {before} {s} h keep st place kept = record {
  hold = λ p there unnamed.
      sym (sign_alike h.changed s.moment p.fact.form unnamed)
      ∙ All-contains (λ (q : Placed). Holds (scene_at before s.moment) q.fact) (placed_facts st) p (settled_holds s.size keep (scene_at before s.moment) st (place.fine.ahead (omega arith))) there;
}

-- so it may carry the mark out
pub may_carry_out : (mark : Mark) {k : ℕ} {before : List (Option Course)} {s : Stage} → IsMarked mark k before s → (st : Structure) → k < length s.structures → slice_get s.structures k ≡ Some st
    → MayCarryOut mark (sight s) (take k s.structures) st
may_carry_out mark {k} {before} {s} h st within here =
    let keep = get_within s.keeps k (subst (λ n. k < n) h.in_order.count within) in
    let place = h.in_order.each k keep.0 st keep.1 here in
    let was = place.fine.ahead (omega arith) in
    record {
      rest = was.rest;
      room = (s.size, keep.0, was.kind, h.room);
      was = (scene_at before s.moment, was.members, was.settled, live_after mark h);
      needs = needs_met h.in_order keep.0 st keep.1 was.kind;
      hold = hold_for mark h keep.0 st place keep.1;
    }

-- a form of a settled structure that is kept may be asked for
asked_of : {size : ℕ} {keep : Keep} {scene : Scene} {st : Structure} (p : Placed) → IsSmallKeep keep → IsSettledFor size keep scene st → Contains (placed_facts st) p → IsAskable scene.live p.fact.form
asked_of {size} {keep} {scene} {st} p small settled there = All-contains (λ (q : Placed). IsAskable scene.live q.fact.form) (placed_facts st) p (settled_askable size keep scene st small settled) there

-- what was told of the structure is so as well where failures are seen with the number
seen : (mark : Mark) {k : ℕ} {before : List (Option Course)} {s : Stage} → IsMarked mark k before s → {keep : Keep} (st : Structure) {after : Structure} {table : Facts} → HasUpdated k (sight s) s keep st after table
    → HasUpdated k (sight s) (record s { motions = with_marked mark before s.motions }) keep st after table
seen (Enters n) h st r = r
seen (Leaves n) {k} {before} {s} h {keep} st {after} {table} r =
    let own : (l : LiveFact) → Contains table.live l → l.certificate.structure ≡ k → Contains s.table.live l ⊎ IsTimed (scene_at before) s.moment l = λ l there is. elim (r.told.own l there is) [
      | inl old ↦ inl old
      | inr new ↦ inr ((timed_same h.changed s.moment l (asked_of l.certificate.placed (h.in_order.fit.keepable.small k keep r.kept) r.settled
          ((r.told.facts (placed_facts st) (placed_facts after) (h.in_order.each k keep st r.kept r.here).tabled r.changed l.certificate.placed).1 (l, there, ap (λ n. owned_by n l.certificate.placed) is)))).0 new)
    ] in
    record { kept = r.kept; here = r.here; settled = r.settled; change = r.change; changed = r.changed; told = assumption own; made = r.made }

-- it has carried the mark out, after those below it, and no fact waits
pub carried_on : (mark : Mark) {k : ℕ} {s : Stage} → IsCarriedOut mark k s → {keep : Keep} (st : Structure) {after : Structure} {table : Facts} → HasUpdated k (sight s) s keep st after table
    → HasGoneOn (IsCarriedOut mark) k s (record s { structures = slice_set s.structures k after; table = table })
carried_on mark {k} {s} one {keep} st {after} {table} r = record {
  next = λ h. (
    h.0,
    record {
      in_order =
          replaced h.1.in_order (seen mark h.1 st r) (record { done = λ less. r.settled; ahead = λ more. absurd (omega (arith, more)) })
          (λ j x y apart was. record { done = λ less. was.done (omega (arith, less, apart)); ahead = λ more. was.ahead (omega (arith, more)) });
      none_waits = λ l there. elim (by_age h.1.in_order (seen mark h.1 st r) l there) [
        | inl old ↦ h.1.none_waits l old
        | inr new ↦ new.waits_not
      ];
      room = h.1.room;
      changed = h.1.changed;
      slow = h.1.slow;
    },
  );
  others = r.told.others;
  made = timed_new one.1.in_order (seen mark one.1 st r);
}

-- where all structures have gone over, each is settled
all_over : (k : ℕ) (before now : Scene) (s : Stage) → length s.structures ≤ k
    → (j : ℕ) (keep : Keep) (st : Structure) → slice_get s.keeps j ≡ Some keep → slice_get s.structures j ≡ Some st → IsInPlace (HasGoneOver s.size k before now) s.table.live j keep st → IsSettledFor s.size keep now st
all_over k before now s all j keep st kept there was = let low : j < length s.structures = slice_get_within s.structures j st there in was.fine.done (omega (arith, low, all))

pub carried_out_all : (mark : Mark) {k : ℕ} {s : Stage} → IsCarriedOut mark k s → length s.structures ≤ k → IsSound s
carried_out_all (Enters n) {k} {s} (before, h) all = record { in_order = restated h.in_order (all_over k (scene_at before s.moment) (sight s) s all); none_waits = h.none_waits }
carried_out_all (Leaves n) {k} {s} (before, h) all = record {
  in_order = seen_anew o s.motions s.moment (sym (same_room h.changed)) h.slow o.canonical (all_over k (scene_at before s.moment) (sight s) s all)
      (λ l there. timely_from_timed (scene_at s.motions) s.moment l ((timed_same h.changed s.moment l (asked l there)).1 (timed o h.none_waits l there)));
  none_waits = h.none_waits;
}
  where
    o : IsInOrder (HasGoneOver s.size k (scene_at before s.moment) (sight s)) (record s { motions = before })
    o = h.in_order

    asked : (l : LiveFact) → Contains s.table.live l → IsAskable (live_of s.motions) l.certificate.placed.fact.form
    asked l there = let at = owner o l there in let within = o.owned l there in asked_of l.certificate.placed (o.fit.keepable.small l.certificate.structure at.0 at.2) (at.3.done (omega (arith, within, all))) at.4
