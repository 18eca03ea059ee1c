-- What a sound world has: its live facts are those of the definition, and the table tells what comes next.
use Rattle.std.proofs.Common.{◌≡◌, inl, inr, refl, sym, ap, ◌∙◌, subst, arith, ℕ, suc, true, List, [], ◌∷◌, Option, Some, None, slice_set, get_or, slice_get, Contains, ◌↔◌}
use Rattle.kin_world.proofs.Vocabulary.{All-contains, slice_get_read, slice_get_within, get_within, IsCanonical, IsEarlier, Moment, never, through, total, Course, IsAskable, NothingFails, failures_at, Certificate, IsLiveFact, ListsLive}
use Rattle.kin_world.proofs.Vocabulary.{FailsFirst, IsReal, scene_at, AreDistinct, Placed, Keep, live_fits, real_at, contains_map, contains_mapped, distinct_cons, distinct_none, AreAlike, LiveFact, NoneAlike, IsLeastFailure, NoneFails}
use Rattle.kin_world.proofs.Vocabulary.{NoneFailsUntil, IsTimed, certificates_of, IsInTime, earlier_still, fails_first, hold_before_least, later_start, nothing_fails, timed_holds, placed_facts, IsSettledFor, HasSameFrame, HasSettled}
use Rattle.kin_world.proofs.Vocabulary.{rules, slice_get-get_or, AreAhead, AreFollowed, Holds, IsNextBlock, IsSound, IsAtEase, Leg, Planning, Stage, meaning, setting, sight, without, HasInserted, Facts, HasMade, HasRemoved, IsWhole, with_facts_of, Structure}
use Rattle.kin_fail.specs.Laws.{IsProper}
use Rattle.kin_motion.specs.Agreements.{FitsSize}
use Rattle.kin_motion.specs.declared.keep.Keep.TheVariants.{Hull}
use Rattle.kin_world.proofs.Vocabulary.{owned_by}
use Rattle.kin_motion.proofs.LiveFactLaws.{live_facts_agree}
use Rattle.kin_fail.proofs.JournalExistence.{least_block}
use Rattle.kin_world.proofs.Certificates.{at_its}
use Rattle.kin_world.proofs.InOrder.{facts_hold, owner, seen_anew, timed, timely_from_timed}
use Rattle.kin_world.proofs.StructureLaws.{grounded_where, settled_askable, settled_facts, settled_where_hold}

-- no owner has a form twice, so no certificate stands twice
certificates_distinct : (live : List LiveFact) → NoneAlike live → AreDistinct (certificates_of live)
certificates_distinct [] once = distinct_none
certificates_distinct (l ∷ ls) once =
    distinct_cons l.certificate (certificates_of ls) fresh (certificates_distinct ls (λ i j d low in_. once (suc i) (suc j) d (omega (arith, low)) (omega (arith, in_))))
  where
    fresh : Contains (certificates_of ls) l.certificate → ⊥
    fresh h =
        let o = contains_mapped (λ (k : LiveFact). k.certificate) ls l.certificate h in
        once 0 (suc o.1.0) o.0 (omega arith) (omega (arith, o.1.1)) (subst (λ (k : LiveFact). AreAlike l k) (sym o.1.2) (at_its l o.0.certificate o.2))

module _ {s : Stage} (sound : IsSound s) where
  -- each live fact has its first failure
  timed_here : (l : LiveFact) → Contains s.table.live l → IsTimed (scene_at s.motions) s.moment l
  timed_here = timed sound.in_order sound.none_waits

  pub failure_at : (l : LiveFact) → Contains s.table.live l → (n : Moment) → l.fails ≡ Some n → FailsFirst (scene_at s.motions) s.moment n l.certificate.placed.fact
  failure_at l there = fails_first (scene_at s.motions) s.moment sound.in_order.canonical l (timed_here l there)

  -- its form may be asked for
  pub live_askable : (l : LiveFact) → Contains s.table.live l → IsAskable (sight s).live l.certificate.placed.fact.form
  live_askable l there =
      let w = owner sound.in_order l there in
      All-contains (λ (p : Placed). IsAskable (sight s).live p.fact.form) (placed_facts w.1) l.certificate.placed
      (settled_askable s.size w.0 (sight s) w.1 (sound.in_order.fit.keepable.small l.certificate.structure w.0 w.2) w.3) w.4

  -- the live facts are those of the kept structures, so those of the definition
  pub lists_live : ListsLive s.size s.keeps (sight s) (certificates_of s.table.live)
  lists_live = record { once = certificates_distinct s.table.live sound.in_order.once; each = λ c. (to c, from c) }
    where
      to : (c : Certificate) → Contains (certificates_of s.table.live) c → IsLiveFact s.size s.keeps (sight s) c
      to c h =
          let l = contains_mapped (λ (k : LiveFact). k.certificate) s.table.live c h in
          let o = owner sound.in_order l.0 l.1 in
          rw l.2 (record { keep = o.0; kept = o.2; fact = ((settled_facts s.size o.0 (sight s) o.1 o.3).each l.0.certificate.placed).0 o.4 })

      from : (c : Certificate) → IsLiveFact s.size s.keeps (sight s) c → Contains (certificates_of s.table.live) c
      from c f =
          let st = get_within s.structures c.structure (rw sound.in_order.count (slice_get_within s.keeps c.structure f.keep f.kept)) in
          let place = sound.in_order.each c.structure f.keep st.0 f.kept st.1 in
          let l = (place.tabled c.placed).0 (((settled_facts s.size f.keep (sight s) st.0 place.fine).each c.placed).1 f.fact) in
          subst (λ (x : Certificate). Contains (certificates_of s.table.live) x) l.2 (contains_map (λ (k : LiveFact). k.certificate) s.table.live l.0 l.1)

  is_live : (l : LiveFact) → Contains s.table.live l → IsLiveFact s.size s.keeps (sight s) l.certificate
  is_live l there = (lists_live.each l.certificate).0 (contains_map (λ (x : LiveFact). x.certificate) s.table.live l there)

  pub whole : {legs : List Leg} → AreFollowed s.motions legs → AreAhead s.moment legs → IsWhole (meaning s legs true)
  whole followed ahead = assumption (lists_live, sound, followed, ahead)

  pub fit_proper : IsProper s.motions s.size s.keeps
  fit_proper = search (rules, sound.in_order.fit, slice_get-get_or)

  -- and they all hold now
  pub live_holds : (c : Certificate) → IsLiveFact s.size s.keeps (sight s) c → Holds (sight s) c.placed.fact
  live_holds c live =
      let l = contains_mapped (λ (k : LiveFact). k.certificate) s.table.live c ((lists_live.each c).1 live) in
      subst (λ (d : Certificate). Holds (sight s) d.placed.fact) (sym l.2) (timed_holds (scene_at s.motions) s.moment sound.in_order.canonical l.0 (timed_here l.0 l.1))

  pub real : IsReal (sight s)
  real = real_at s.motions s.moment sound.in_order.canonical

  pub fits : FitsSize s.size (sight s)
  fits = live_fits s.size s.motions s.moment sound.in_order.fit.room

  -- the structure of a keep is settled
  pub settled_read : (k : ℕ) (keep : Keep) (st : Structure) → slice_get s.keeps k ≡ Some keep → st ≡ get_or s.structures k st → IsSettledFor s.size keep (sight s) st
  settled_read k keep st kept read =
      (sound.in_order.each k keep st kept (slice_get_read s.structures _ k st refl (rw sound.in_order.count (slice_get_within s.keeps k keep kept)) read)).fine

  pub in_time : IsInTime (setting s) s.moment s.table.live
  in_time = record { canonical = sound.in_order.canonical; lists = lists_live; timed = timed_here }

  -- where no live fact ever fails nothing does
  pub never_fails : NoneFails s.table.live ↔ NothingFails (setting s) s.moment
  never_fails = (
    nothing_fails (setting s) s.moment s.table.live in_time,
    λ nothing l there m fails.
        let first = failure_at l there m fails in
        first.fails (nothing l.certificate (is_live l there) m first.canonical
        (λ before. never s.moment sound.in_order.canonical (through s.moment m s.moment sound.in_order.canonical first.canonical sound.in_order.canonical first.later_is_later before))),
  )

  -- the least failure is the first failure of a live fact
  pub least_fails : (m : Moment) (least : IsLeastFailure s.table.live m) → FailsFirst (scene_at s.motions) s.moment m least.some.0.certificate.placed.fact
  least_fails m least = failure_at least.some.0 least.some.1 m least.some.2

  -- there is one least failure moment
  pub one_least : (m n : Moment) → IsLeastFailure s.table.live m → IsLeastFailure s.table.live n → m ≡ n
  one_least m n first second = elim (total m n (least_fails m first).canonical (least_fails n second).canonical) [
    | inl less ↦ absurd (second.least first.some.0 m first.some.1 first.some.2 less)
    | inr (inl more) ↦ absurd (first.least second.some.0 n second.some.1 second.some.2 more)
    | inr (inr same) ↦ same
  ]

  module _ (m : Moment) (least : IsLeastFailure s.table.live m) where
    -- the least failure is the moment of the next block
    pub next_at : IsNextBlock (setting s) s.moment (record { moment = m; failures = failures_at (setting s) s.moment m })
    next_at =
        let listed = live_facts_agree s.size s.keeps (sight s) real fits in
        least_block (setting s) s.moment real fits m (record {
          some = least.some.0.certificate;
          among = (listed.each least.some.0.certificate).1 (is_live least.some.0 least.some.1);
          fails = least_fails m least;
          hold_before = λ c there x until. hold_before_least (setting s) s.moment s.table.live in_time m least x until.canonical until.from until.until c ((listed.each c).0 there);
        })

  module _ (limit : Moment) (canonical : IsCanonical limit.at) (from : ¬ (IsEarlier limit s.moment)) (none : NoneFailsUntil s.table.live limit) where
    later : (l : LiveFact) → Contains s.table.live l → (n : Moment) → l.fails ≡ Some n → IsEarlier limit n
    later l there n e = elim none [
      | inl never ↦ absurd (never l there n e)
      | inr due ↦ earlier_still limit due.0 n canonical (least_fails due.0 due.1).canonical (failure_at l there n e).canonical due.2 (due.1.least l n there e)
    ]

    timed_later : (l : LiveFact) → Contains s.table.live l → IsTimed (scene_at s.motions) limit l
    timed_later l there = elim (total s.moment limit sound.in_order.canonical canonical) [
      | inl more ↦ record { waits_not = sound.none_waits l there; fails = later_start (scene_at s.motions) s.moment sound.in_order.canonical l (timed_here l there) limit canonical more (later l there) }
      | inr (inl before) ↦ absurd (from before)
      | inr (inr same) ↦ subst (λ (x : Moment). IsTimed (scene_at s.motions) x l) same (timed_here l there)
    ]

    -- and holds until then
    hold_later : (h : ℕ) (p : Placed) → IsLiveFact s.size s.keeps (sight s) (owned_by h p) → Holds (scene_at s.motions limit) p.fact
    hold_later h p live =
        let l = contains_mapped (λ (k : LiveFact). k.certificate) s.table.live (owned_by h p) ((lists_live.each (owned_by h p)).1 live) in
        subst (λ (c : Certificate). Holds (scene_at s.motions limit) c.placed.fact) (sym l.2) (timed_holds (scene_at s.motions) limit canonical l.0 (timed_later l.0 l.1))

    -- until something fails all structures stay settled, and all failure moments stay the first
    pub sound_later : IsSound (record s { moment = limit })
    sound_later = record {
      in_order = seen_anew sound.in_order s.motions limit refl sound.in_order.fit.slow canonical
          (λ j keep st kept there was. settled_where_hold s.size keep (sight s) (scene_at s.motions limit) st real (real_at s.motions limit canonical) was.fine refl
          (grounded_where s.size s.keeps (sight s) (scene_at s.motions limit) real (real_at s.motions limit canonical) fits refl sound.in_order.fit.keepable.few j keep st kept was.fine
          (λ pair h is at p fact. hold_later h p (record { keep = Hull; kept = at; fact = fact })))
          (facts_hold (scene_at s.motions limit) s.table.live j (placed_facts st) was.tabled (λ l live. timed_holds (scene_at s.motions) limit canonical l (timed_later l live))))
          (λ l there. timely_from_timed (scene_at s.motions) limit l (timed_later l there));
      none_waits = sound.none_waits;
    }

-- where a call has changed nothing but the facts, of a stage that was another's moment or motions before
module _ (s : Stage) {t : Stage} (did : HasSettled s.table t) (frame : HasSameFrame s t) where
  pub has_made : (before : Stage) → before.table ≡ s.table → {legs others : List Leg} → HasMade 0 (meaning before legs true) (meaning t others true)
  has_made before same = record {
    born = did.made.born;
    exactly = rw same did.made.exactly;
    count = let made = did.made.count in let was = ap (λ (f : Facts). f.made) same in omega (arith, made, was);
  }

  -- a number has another motion, or none
  module _ (before : List (Option Course)) (i : ℕ) (o : Option Course) (written : s.motions ≡ slice_set before i o) where
    state_with : (legs : List Leg) → meaning t legs true ≡ with_facts_of (record (meaning s legs true) { motions = slice_set before i o }) (meaning t legs true)
    state_with legs = ap (λ (x : Stage). meaning x legs true) frame ∙ ap (λ (ms : List (Option Course)). with_facts_of (record (meaning s legs true) { motions = ms }) (meaning t legs true)) written

    -- points that follow legs follow them then
    pub ease_with : (plan : Planning) → plan.size ≡ s.size → AreFollowed (slice_set before i o) plan.legs → AreAhead s.moment plan.legs → IsAtEase t plan
    ease_with plan size followed ahead = record {
      sound = did.sound;
      size = size ∙ sym (ap (λ (x : Stage). x.size) frame);
      followed = subst (λ (ms : List (Option Course)). AreFollowed ms plan.legs) (sym written ∙ sym (ap (λ (x : Stage). x.motions) frame)) followed;
      ahead = subst (λ (m : Moment). AreAhead m plan.legs) (sym (ap (λ (x : Stage). x.moment) frame)) ahead;
    }

  pub has_inserted : (before : List (Option Course)) (i : ℕ) (motion : Course) → s.motions ≡ slice_set before i (Some motion) → {plan : Planning} → IsAtEase t plan
      → HasInserted i motion (meaning (record s { motions = before }) plan.legs true) (meaning t plan.legs true)
  has_inserted before i motion written {plan} ease = record { state = state_with before i (Some motion) written plan.legs; whole = whole did.sound ease.followed ease.ahead; made = has_made (record s { motions = before }) refl }

  pub has_removed : (before : List (Option Course)) (i : ℕ) → s.motions ≡ slice_set before i None → (legs : List Leg) {plan : Planning} → plan.legs ≡ without i legs → IsAtEase t plan
      → HasRemoved i (meaning (record s { motions = before }) legs true) (meaning t plan.legs true)
  has_removed before i written legs {plan} left ease = record {
    state = state_with before i None written plan.legs ∙ ap (λ (ls : List Leg). with_facts_of (record (meaning s ls true) { motions = slice_set before i None }) (meaning t plan.legs true)) left;
    whole = whole did.sound ease.followed ease.ahead;
    made = has_made (record s { motions = before }) refl;
  }
