-- From the state before a settle to that after it.
use Rattle.std.proofs.Common.{◌≡◌, ◌⊎◌, inl, inr, refl, sym, ap, ◌∙◌, subst, arith, List, ◌++◌, ℕ, ◌+◌, ◌*◌, ◌^◌, ◌<◌, ◌≤◌, length, map, filter, Bool, true, false}
use Rattle.std.specs.Prelude.{Some, Contains, slice_get, IsTrue}
use Rattle.std.proofs.lemmas.Bool.{and_parts, cases_eq}
use Rattle.std.proofs.lemmas.List.{length-map}
use Rattle.std.proofs.lemmas.Nat.{mul-le}
use Rattle.std.proofs.Math.Pow.{pow_mono}
use Rattle.kin_algebra.proofs.Members.{contains_from_get}
use Rattle.kin_algebra.proofs.Options.{none_or_some}
use Rattle.kin_motion.specs.declared.fact.Placed.{Placed}
use Rattle.kin_motion.specs.Agreements.{FitsSize}
use Rattle.kin_motion.specs.ClosestPairs.{Near, distance_key}
use Rattle.kin_motion.specs.Deltas.{Change}
use Rattle.kin_motion.specs.Forms.{names}
use Rattle.kin_motion.specs.Kinetics.{ListsFailing, HasChanged}
use Rattle.kin_motion.specs.Numbers.{is_in, IsIn}
use Rattle.kin_motion.specs.Octants.{octants as eight_octants, Octant, is_in_octant, IsCandidate, IsCandidateAnswer, AreCandidates, ListsChanged}
use Rattle.kin_motion.specs.Parts.{moved_by}
use Rattle.kin_motion.specs.Scene.{Scene, IsReal}
use Rattle.kin_motion.proofs.AgreementLaws.{kept-members}
use Rattle.kin_motion.proofs.Members.{in_cases, in_from_contains}
use Rattle.kin_motion.proofs.NearLaws.{octant_at}
use Rattle.kin_list.specs.declared.mark.Mark.{Mark}
use Rattle.kin_list.specs.declared.mark.Mark.TheVariants.{Rest, Enters, Leaves, Broken}
use Rattle.kin_list.specs.Listing.{HasMarked, names_leaving, without}
use Rattle.kin_list.proofs.ListLaws.{is_in-without, not_in-without}
use Rattle.kin_tourney.specs.Tournament.{Tournament, IsAtRest, IsReady, IsSettled, mark_count, CoversAskable}
use Rattle.kin_tourney.specs.PointLaws.{mark_none}
use Rattle.kin_wedge.specs.Wedging.{Wedging, candidate_told, members_of, IsSettledWedging}
use Rattle.kin_near.specs.BestPairs.{HoldCandidates}
use Rattle.kin_near.proofs.SettledPairs.{wedge_part}
use Rattle.kin_pairs.specs.declared.distance.Distance.{Distance}
use Rattle.kin_closest.specs.Closing.{Closing, facts_of, IsSettledClosing, IsReadyClosing, AreJoined}
use Rattle.kin_closest.specs.ClosingLaws.{closest_settled}
use Rattle.kin_pairs.specs.PairKeys.{pair_names}
use Rattle.kin_pairs.specs.Sorting.{is_before, is_beyond, taken_back}
use Rattle.kin_closest.specs.Told.{AreLow, AreTold}
use Rattle.kin_pairs.proofs.Joining.{joined, facts_low}
use Rattle.kin_pairs.proofs.LiveNames.{names_live}
use Rattle.kin_pairs.proofs.Splitting.{others_failing, pairs_covered}
use Rattle.kin_closest.proofs.Readiness.{ready}
use Rattle.kin_closest.proofs.Telling.{held_after}

-- who stays or enters is below the size
marked_low : (mark : Mark) (members live : List ℕ) (n : ℕ) → HasMarked mark members live → ((i : ℕ) → IsIn i members → i < n) → ((i : ℕ) → mark ≡ Enters i → i < n) → (i : ℕ) → IsIn i live → i < n
marked_low Rest members live n h below new i l = below i (h.same i ∙ l)
marked_low (Enters j) members live n h below new i l = at (in_cases i j members (h.same i ∙ l))
  where
    at : (i ≡ j) ⊎ IsIn i members → i < n
    at (inl e) = subst (λ k. k < n) (sym e) (new j refl)
    at (inr m) = below i m
marked_low (Leaves j) members live n h below new i l = at (cases_eq i j)
  where
    there : IsIn i (without j members)
    there = h.same i ∙ l

    at : (i ≡ j) ⊎ (¬ (i ≡ j)) → i < n
    at (inl e) = absurd (let clash : true ≡ false = sym (subst (λ k. is_in k (without j members) ≡ true) e there) ∙ not_in-without j members in cc)
    at (inr other) = below i (sym (is_in-without i j members other) ∙ there)
marked_low Broken members live n h below new i l = absurd h

-- a fact that names no number that isn't live doesn't name one that leaves
none_leaving : (mark : Mark) (members live : List ℕ) (p : Placed) → HasMarked mark members live → ((i : ℕ) → ¬ (IsIn i live) → names p.fact.form i ≡ false) → names_leaving mark (moved_by 8 p) ≡ false
none_leaving Rest members live p h f = refl
none_leaving (Enters i) members live p h f = refl
none_leaving (Leaves i) members live p h f = f i (λ l. absurd (let clash : true ≡ false = sym (h.same i ∙ l) ∙ not_in-without i members in cc))
none_leaving Broken members live p h f = refl

-- a candidate is live
candidate_live : (s : Scene) (o : Octant) (p c : ℕ) → IsCandidate s o p c → IsIn c s.live
candidate_live s o p c h = (and_parts (is_in c s.live) (is_in_octant s o p c) (sym (kept-members (is_in_octant s o p) s.live c) ∙ h.member)).0

-- what a settle is called with
pub record IsCalled (old : Closing) (s : Scene) (failed : List Placed) : Type 0 where
  pub known : AreJoined old.wedges old.pairs
  pub real : IsReal s
  pub may : IsReadyClosing old s
  pub failing : ListsFailing (facts_of old) (names_leaving old.wedges.mark) s failed

pub called : {old k : Closing} {s : Scene} {failed : List Placed} → old ≡ k → (IsTrue old.whole → AreJoined old.wedges old.pairs) → IsReal s → IsReadyClosing k s → ListsFailing (facts_of k) (names_leaving k.wedges.mark) s failed → IsCalled old s failed
called {old} {k} {s} {failed} is known real ready failing =
    let may : IsReadyClosing old s = subst (λ (c : Closing). IsReadyClosing c s) (sym is) ready in
    record { known = known may.whole; real = real; may = may; failing = subst (λ (c : Closing). ListsFailing (facts_of c) (names_leaving c.wedges.mark) s failed) (sym is) failing }

module _ {old : Closing} {s : Scene} {failed : List Placed} (call : IsCalled old s failed) where
  orders_low : (p : Placed) → Contains old.wedges.facts p → p.part < 8
  orders_low p c = wedge_part call.known.seen p ((call.known.settled.octants.wedges.exact.each p).0 c)

  pub orders_told : ListsFailing old.wedges.facts (names_leaving old.wedges.mark) s (filter (is_before 8) failed)
  orders_told = others_failing 8 (names_leaving old.wedges.mark) s old.wedges.facts old.pairs.facts failed orders_low call.failing

  fits : FitsSize old.wedges.size s
  fits = marked_low old.wedges.mark (members_of old.wedges) s.live (2 ^ old.wedges.size) call.may.members (λ i m. call.known.settled.fits i (sym ((call.known.settled.octants.ordered.order 0 (omega arith)).all.same i) ∙ m)) call.known.entering

  -- the orders have settled
  module _ {new : Wedging} (size : new.size ≡ old.wedges.size) (octants : IsSettledWedging new s) (changed : ListsChanged old.wedges.size (candidate_told old.wedges) (candidate_told new) new.changed) where
    pub within : (k i : ℕ) → slice_get new.changed k ≡ Some i → i < 2 ^ (new.size + 3)
    within k i e = subst (λ n. i < 2 ^ (n + 3)) (sym size) (changed.within i (in_from_contains new.changed i (contains_from_get new.changed k i e)))

    pub few_numbers : new.size ≤ 12
    few_numbers = let k = call.known.small in omega (arith, k, size)

    pub candidates_low : AreLow new.size (candidate_told new)
    candidates_low p w q low eight e = at (is_in p s.live) refl
      where
        o : (o : Octant) × (slice_get eight_octants w ≡ Some o)
        o = octant_at w eight

        at : (b : Bool) → is_in p s.live ≡ b → q < 2 ^ 12
        at true live =
            let here = subst (IsCandidateAnswer s o.0 p) e (octants.wedges.candidates.of_live p w o.0 live o.1) in
            let below = fits q (candidate_live s o.0 p q here) in
            let most : 2 ^ old.wedges.size ≤ 2 ^ 12 = pow_mono call.known.small in omega (arith, below, most)
        at false absent = absurd (none_or_some (octants.wedges.candidates.of_others p w low eight (λ l. absurd (let clash : true ≡ false = sym l ∙ absent in cc))) e)

    -- all slots are told
    module _ {u : Tournament Distance Near} (told : AreTold (candidate_told new) new.changed (length new.changed) old.pairs u) where
      held : HoldCandidates old.wedges.size (candidate_told new) u.slots
      held = held_after old.wedges.size (candidate_told old.wedges) (candidate_told new) new.changed old.pairs u told call.known.settled.held changed

      octants_here : IsSettledWedging (record new { size = old.wedges.size }) s
      octants_here = record { ordered = octants.ordered; wedges = record { candidates = subst (λ n. AreCandidates n s (candidate_told new)) size octants.wedges.candidates; exact = octants.wedges.exact } }

      same_size : u.size ≡ old.pairs.size
      same_size = ap (λ (t : Tournament Distance Near). t.size) told.same

      same_facts : u.facts ≡ old.pairs.facts
      same_facts = ap (λ (t : Tournament Distance Near). t.facts) told.same

      pub pairs_ready : IsReady pair_names u s
      pairs_ready = ready old.wedges.size s call.real fits (candidate_told new) octants_here.wedges.candidates u held (ap (λ (t : Tournament Distance Near). t.whole) told.same ∙ call.known.rest.whole)

      pub pairs_told : CoversAskable u.facts s (map (taken_back 8) (filter (is_beyond 8) failed))
      pairs_told =
          subst (λ fs. CoversAskable fs s (map (taken_back 8) (filter (is_beyond 8) failed))) (sym same_facts)
          (pairs_covered 8 (names_leaving old.wedges.mark) s old.wedges.facts old.pairs.facts failed orders_low call.failing
          (λ x c live. none_leaving old.wedges.mark (members_of old.wedges) s.live x call.may.members (λ i absent. names_live s.live i absent x.fact.form live)))

      pub pairs_small : u.size ≤ 15
      pairs_small = let e : u.size ≡ old.wedges.size + 3 = same_size ∙ call.known.settled.size in let k = call.known.small in omega (arith, e, k)

      pub pairs_low : (p : Placed) → Contains u.facts p → p.part < 2 ^ 15
      pairs_low p c = facts_low pair_names distance_key old.pairs call.known.seen call.known.settled.pairs (let e = call.known.settled.size in let k = call.known.small in omega (arith, e, k)) p (subst (λ fs. Contains fs p) same_facts c)

      -- the marks and the failed facts that were told
      pub tests_few : (picked : List Placed) (mid after : ℕ) → picked ≡ map (taken_back 8) (filter (is_beyond 8) failed) → after ≤ mid + u.size * (mark_count u.marked + length picked)
          → after ≤ mid + (old.wedges.size + 3) * (length new.changed + length (filter (is_beyond 8) failed))
      tests_few picked mid after e h = enough (subst (λ n. after ≤ mid + n * (mark_count u.marked + length picked)) (same_size ∙ call.known.settled.size) h) (ap length e ∙ length-map (filter (is_beyond 8) failed) (taken_back 8)) marks
        where
          marks : mark_count u.marked ≤ length new.changed
          marks = let k = told.few in let z = mark_none old.pairs.marked call.known.rest.unmarked in omega (arith, k, z)

          enough : after ≤ mid + (old.wedges.size + 3) * (mark_count u.marked + length picked) → length picked ≡ length (filter (is_beyond 8) failed) → mark_count u.marked ≤ length new.changed
              → after ≤ mid + (old.wedges.size + 3) * (length new.changed + length (filter (is_beyond 8) failed))
          enough h e m =
              let k = mul-le (old.wedges.size + 3) (mark_count u.marked + length picked) (old.wedges.size + 3) (length new.changed + length (filter (is_beyond 8) failed)) (omega arith) (omega (arith, e, m)) in
              omega (arith, h, k)

      -- the tournament has settled
      module _ {v : Tournament Distance Near} (same : v ≡ record u { marked = v.marked; winners = v.winners; facts = v.facts }) (settled : IsSettled pair_names distance_key v s) where
        fits_now : FitsSize new.size s
        fits_now = subst (λ n. FitsSize n s) (sym size) fits

        size_now : v.size ≡ new.size + 3
        size_now = ap (λ (t : Tournament Distance Near). t.size) same ∙ same_size ∙ call.known.settled.size ∙ ap (λ n. n + 3) (sym size)

        held_now : HoldCandidates new.size (candidate_told new) v.slots
        held_now = subst (λ n. HoldCandidates n (candidate_told new) v.slots) (sym size) (subst (HoldCandidates old.wedges.size (candidate_told new)) (sym (ap (λ (t : Tournament Distance Near). t.slots) same)) held)

        pub settled_now : (whole : Bool) → IsSettledClosing (record { wedges = new; pairs = v; whole = whole }) s
        settled_now whole = record {
          closest = closest_settled (record { wedges = new; pairs = v; whole = whole }) s call.real octants fits_now size_now held_now settled;
          fits = fits_now;
          octants = octants;
          size = size_now;
          held = held_now;
          pairs = settled;
        }

        pub joined_now : new.mark ≡ Rest → IsAtRest v → length v.marked ≡ length u.marked → AreJoined new v
        joined_now rests rest room = record {
          seen = s;
          settled = settled_now true;
          rest = rest;
          room = room ∙ told.marks_room ∙ call.known.room ∙ ap (λ n. 2 ^ n) (sym (ap (λ (t : Tournament Distance Near). t.size) same ∙ same_size));
          entering = λ i e. absurd (let clash : Rest ≡ Enters i = sym rests ∙ e in cc);
          small = subst (λ n. n ≤ 12) (sym size) call.known.small;
        }

        pub changed_now : (out mid out' : Change) → HasChanged old.wedges.facts new.facts out mid → HasChanged (map (moved_by 8) u.facts) (map (moved_by 8) v.facts) mid out' → HasChanged (facts_of old) (new.facts ++ map (moved_by 8) v.facts) out out'
        changed_now out mid out' first second =
            joined 8 old.wedges.facts new.facts old.pairs.facts v.facts out mid out' orders_low (λ p c. wedge_part s p ((octants.wedges.exact.each p).0 c)) first
            (subst (λ (fs : List Placed). HasChanged (map (moved_by 8) fs) (map (moved_by 8) v.facts) mid out') same_facts second)
