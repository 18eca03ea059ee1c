-- What stands at a place, who owns a live fact, and one structure put in the place of another.
use Rattle.kin_world.proofs.Vocabulary.{rules, ◌≡◌, ◌≢◌, ◌⊎◌, inl, inr, refl, sym, ap, ◌∙◌, subst, arith, ℕ, ◌-◌, ◌^◌, ◌<◌, ◌≤◌, List, Option, length, get_or, slice_set, slice_get, Some, Contains, length-set, cases_eq, length-map}
use Rattle.kin_world.proofs.Vocabulary.{same_Some, slice_get_read, slice_get_within, get-set_other, get-set_same, get_within, IsCanonical, Moment, AreSlow, Course, AllHold, HasChanged, Certificate, owned_by, Holds, Scene, scene_at, Placed, Keep}
use Rattle.kin_world.proofs.Vocabulary.{Facts, LiveFact, NoneAlike, NoneWaits, HasFactsOf, IsTimed, MayTell, nothing, timed_holds, placed_facts, IsSettledFor, HasTimedNew, HasUpdated, IsInOrder, IsInPlace, IsTimedOrFailed, Stage, sight, Structure}
use Rattle.kin_motion.specs.Deltas.{Change}
use Rattle.kin_world.proofs.Certificates.{HaveSameCertificates}
use Rattle.kin_world.proofs.StructureLaws.{all_from_each, settled_holds, settled_askable}

-- the live facts of the structure of this number hold, so all its facts hold
pub facts_hold : (s : Scene) (live : List LiveFact) (j : ℕ) (facts : List Placed) → HasFactsOf live j facts → ((l : LiveFact) → Contains live l → Holds s l.certificate.placed.fact) → AllHold s facts
facts_hold s live j facts tabled holds =
    all_from_each facts (λ p there. let l = (tabled p).0 there in subst (λ (c : Certificate). Holds s c.placed.fact) l.2 (holds l.0 l.1))

-- a fact with its first failure doesn't wait
pub timely_from_timed : (scene : Moment → Scene) (m : Moment) (l : LiveFact) → IsTimed scene m l → IsTimedOrFailed scene m l
timely_from_timed scene m l timed = search rules

module _ {is_fine : ℕ → Keep → Structure → Type 0} {s : Stage} (o : IsInOrder is_fine s) where
  -- what stands at a place, and was read there
  pub standing_read : (j : ℕ) (st : Structure) → j < length s.structures → st ≡ get_or s.structures j st → (keep : Keep) × (slice_get s.keeps j ≡ Some keep) × (slice_get s.structures j ≡ Some st) × IsInPlace is_fine s.table.live j keep st
  standing_read j st low read =
      let keep = get_within s.keeps j (subst (λ n. j < n) o.count low) in
      let here = slice_get_read s.structures (length s.structures) j st refl low read in
      (keep.0, keep.1, here, o.each j keep.0 st keep.1 here)

  -- a live fact is one of its owner's
  pub owner : (l : LiveFact) → Contains s.table.live l
      → (keep : Keep) × (st : Structure) × (slice_get s.keeps l.certificate.structure ≡ Some keep) × is_fine l.certificate.structure keep st × Contains (placed_facts st) l.certificate.placed
  owner l there =
      let st = get_within s.structures l.certificate.structure (o.owned l there) in
      let keep = get_within s.keeps l.certificate.structure (subst (λ n. l.certificate.structure < n) o.count (o.owned l there)) in
      let place = o.each l.certificate.structure keep.0 st.0 keep.1 st.1 in
      (keep.0, st.0, keep.1, place.fine, (place.tabled l.certificate.placed).1 (l, there, refl))

  -- where no fact waits each has its first failure, so it holds
  pub timed : NoneWaits s.table.live → (l : LiveFact) → Contains s.table.live l → IsTimed (scene_at s.motions) s.moment l
  timed none l there = (o.timely l there).timed (none l there)

  pub all_hold : NoneWaits s.table.live → (j : ℕ) (facts : List Placed) → HasFactsOf s.table.live j facts → AllHold (sight s) facts
  all_hold none j facts tabled = facts_hold (sight s) s.table.live j facts tabled (λ l there. timed_holds (scene_at s.motions) s.moment o.canonical l (timed none l there))

  -- the motions, the moment and the failure moments may become others, where the certificates stay
  pub retimed : {is_fine' : ℕ → Keep → Structure → Type 0} (motions : List (Option Course)) (m : Moment) (table : Facts) → length motions ≡ length s.motions → AreSlow motions → IsCanonical m.at
      → NoneAlike table.live → table.made ≤ 2 ^ 64 - 1 → HaveSameCertificates s.table.live table.live
      → ((j : ℕ) (keep : Keep) (st : Structure) → slice_get s.keeps j ≡ Some keep → slice_get s.structures j ≡ Some st → IsInPlace is_fine s.table.live j keep st → is_fine' j keep st)
      → ((l : LiveFact) → Contains table.live l → IsTimedOrFailed (scene_at motions) m l) → IsInOrder is_fine' (record s { motions = motions; moment = m; table = table })
  retimed {is_fine'} motions m table room slow canonical once counted same finer timely = search (rules, each, owned)
    where
      each : (j : ℕ) (keep : Keep) (st : Structure) → slice_get s.keeps j ≡ Some keep → slice_get s.structures j ≡ Some st → IsInPlace is_fine' table.live j keep st
      each j keep st kept there =
          let was = o.each j keep st kept there in
          record {
            fine = finer j keep st kept there was;
            tabled = λ p. (
              λ there. let l = (was.tabled p).0 there in let k = same.stay l.0 l.1 in (k.0, k.1, k.2 ∙ l.2),
              λ l. let k = same.only l.0 l.1 in (was.tabled p).1 (k.0, k.1, k.2 ∙ l.2),
            );
          }

      owned : (l : LiveFact) → Contains table.live l → l.certificate.structure < length s.structures
      owned l there = let k = same.only l there in subst (λ (c : Certificate). c.structure < length s.structures) k.2 (o.owned k.0 k.1)

  -- the motions and the moment alone
  pub seen_anew : {is_fine' : ℕ → Keep → Structure → Type 0} (motions : List (Option Course)) (m : Moment) → length motions ≡ length s.motions → AreSlow motions → IsCanonical m.at
      → ((j : ℕ) (keep : Keep) (st : Structure) → slice_get s.keeps j ≡ Some keep → slice_get s.structures j ≡ Some st → IsInPlace is_fine s.table.live j keep st → is_fine' j keep st)
      → ((l : LiveFact) → Contains s.table.live l → IsTimedOrFailed (scene_at motions) m l) → IsInOrder is_fine' (record s { motions = motions; moment = m })
  seen_anew motions m room slow canonical finer timely = retimed motions m s.table room slow canonical o.once o.counted (record { stay = λ l there. (l, there, refl); only = λ l there. (l, there, refl) }) finer timely

  -- what is fine in one sense is fine in another
  pub restated : {is_fine' : ℕ → Keep → Structure → Type 0} → ((j : ℕ) (keep : Keep) (st : Structure) → slice_get s.keeps j ≡ Some keep → slice_get s.structures j ≡ Some st → IsInPlace is_fine s.table.live j keep st → is_fine' j keep st) → IsInOrder is_fine' s
  restated finer = seen_anew s.motions s.moment refl o.fit.slow o.canonical finer o.timely

  -- the change of a structure that is settled now may be told
  pub may_tell : (now : Scene) (k : ℕ) (keep : Keep) (st after : Structure) (change : Change) → slice_get s.keeps k ≡ Some keep → IsInPlace is_fine s.table.live k keep st → IsSettledFor s.size keep now after
      → HasChanged (placed_facts st) (placed_facts after) nothing change → MayTell k change now s.table.live
  may_tell now k keep st after change kept place settled changed = search (rules, settled_holds, settled_askable)

  module _ {k : ℕ} {now : Scene} {keep : Keep} {st after : Structure} {table : Facts} (r : HasUpdated k now s keep st after table) where
    -- the structure's own facts are tabled
    pub tabled_here : HasFactsOf table.live k (placed_facts after)
    tabled_here = r.told.facts (placed_facts st) (placed_facts after) (o.each k keep st r.kept r.here).tabled r.changed

    pub timed_new : HasTimedNew s.table table
    timed_new = search (rules, length-map)

    -- another structure has the facts that it had
    tabled_there : (j : ℕ) (facts : List Placed) → j ≢ k → HasFactsOf s.table.live j facts → HasFactsOf table.live j facts
    tabled_there j facts apart tabled p = (
      λ h. let l = (tabled p).0 h in (l.0, (r.told.others l.0 (away l.0 l.2)).0 l.1, l.2),
      λ l. (tabled p).1 (l.0, (r.told.others l.0 (away l.0 l.2)).1 l.1, l.2),
    )
      where
        away : (l : LiveFact) → l.certificate ≡ owned_by j p → l.certificate.structure ≢ k
        away l e is = apart (sym (ap (λ (c : Certificate). c.structure) e) ∙ is)

    -- a fact that is live now was live, or has its first failure
    pub by_age : (l : LiveFact) → Contains table.live l → Contains s.table.live l ⊎ IsTimed (scene_at s.motions) s.moment l
    by_age l there = elim (cases_eq l.certificate.structure k) [
      | inl is ↦ r.told.own l there is
      | inr other ↦ inl ((r.told.others l other).1 there)
    ]

    -- the new structure is fine, and the others stay fine
    pub replaced : {is_fine' : ℕ → Keep → Structure → Type 0} → is_fine' k keep after → ((j : ℕ) (x : Keep) (y : Structure) → j ≢ k → is_fine j x y → is_fine' j x y)
        → IsInOrder is_fine' (record s { structures = slice_set s.structures k after; table = table })
    replaced {is_fine'} fine others = record {
      fit = o.fit;
      canonical = o.canonical;
      counted = omega (arith, r.made);
      count = length-set s.structures k after ∙ o.count;
      each = λ j x y kept there. elim (cases_eq j k) [
        | inl is ↦
            let same_keep : keep ≡ x = same_Some _ _ (sym r.kept ∙ rw is at kept) in
            let same : after ≡ y = same_Some _ _ (sym (get-set_same s.structures k after low) ∙ rw is at there) in
            rw (is, ← same_keep, ← same) (record { fine = fine; tabled = tabled_here })
        | inr apart ↦
            let was = o.each j x y kept (sym (get-set_other s.structures k j after apart) ∙ there) in
            record { fine = others j x y apart was.fine; tabled = tabled_there j (placed_facts y) apart was.tabled }
      ];
      once = r.told.once;
      owned = λ l there. rw (length-set s.structures k after) (elim (cases_eq l.certificate.structure k) [
        | inl is ↦ rw is low
        | inr other ↦ o.owned l ((r.told.others l other).1 there)
      ]);
      timely = λ l there. elim (by_age l there) [
        | inl old ↦ o.timely l old
        | inr new ↦ timely_from_timed (scene_at s.motions) s.moment l new
      ];
    }
      where
        low : k < length s.structures
        low = slice_get_within s.structures k st r.here
