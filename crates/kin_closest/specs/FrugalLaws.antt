-- What a repair of a kinetic closest pair spends is within the bound of its keep.
use Rattle.std.proofs.Common.{◌≡◌, inl, inr, sym, ◌∙◌, subst, arith, List, ℕ, ◌+◌, ◌*◌, ◌≤◌, true, length, filter}
use Rattle.std.specs.Prelude.{slice_get, Contains, ◌≢◌}
use Rattle.std.proofs.lemmas.Bool.Decides.{nat_tests}
use Rattle.kin_motion.specs.declared.fact.Placed.{Placed}
use Rattle.kin_motion.specs.declared.keep.Keep.{Keep}
use Rattle.kin_motion.specs.ClosestFacts.{IsPairFact, IsClosestFact, near_slots}
use Rattle.kin_motion.specs.Deltas.{Change}
use Rattle.kin_motion.specs.Kinetics.{ListsFailing, HasChanged}
use Rattle.kin_motion.specs.Octants.{eight_directions, AreCandidates, ListsChanged}
use Rattle.kin_motion.specs.Scene.{Scene, IsReal}
use Rattle.kin_motion.specs.Sets.{ListsExactly}
use Rattle.kin_motion.specs.Spending.{AreInStep, HasFailed, HasRisenWithin, MayAsk, MayClosestAsk, MayOrdersAsk}
use Rattle.kin_motion.proofs.ClosestFactLaws.{pair_part}
use Rattle.kin_motion.proofs.SetLaws.{distinct_filter, filter-complete, filter-sound}
use Rattle.kin_list.specs.declared.mark.Mark.{Mark}
use Rattle.kin_list.specs.Keeping.{LeadsTo}
use Rattle.kin_list.specs.Listing.{names_leaving}
use Rattle.kin_wedge.proofs.Led.{unspared_stay, staying_unspared}
use Rattle.kin_wedge.specs.Costs.{AreFewBelow}
use Rattle.kin_wedge.specs.Wedging.{candidate_told}
use Rattle.kin_wedge.proofs.EightAsk.{eight_ask}
use Rattle.kin_near.specs.BestPairs.{HoldCandidates}
use Rattle.kin_near.proofs.ChangedPairs.{changed_pairs}
use Rattle.kin_near.proofs.SettledPairs.{wedge_part}
use Rattle.kin_closest.specs.Closing.{Closing, facts_of, IsSettledClosing, IsClosingAtRest, HasMembers, IsClosingFor, FollowsClosing, AreFewTests}
use Rattle.kin_pairs.specs.Sorting.{is_beyond}

-- at rest it follows the scene in which it was settled
pub closing_follows_scene : (k : Closing) (s : Scene) (live : List ℕ) → IsClosingAtRest k → HasMembers k s.live → IsSettledClosing k s → s.live ≡ live → FollowsClosing k s live
closing_follows_scene k s live rest members settled same = record { settled = settled; led = subst (λ (mark : Mark). LeadsTo mark s.live live) (sym rest.rest) same }

-- ---- the facts of the tournament
beyond_orders : (p : Placed) → 8 ≤ p.part → is_beyond 8 p ≡ true
beyond_orders p high = grind (arith, nat_tests, high)

pair_of : (size : ℕ) (s : Scene) (p : Placed) → is_beyond 8 p ≡ true → IsClosestFact size s p → IsPairFact size s p
pair_of size s p test (inl wedge) = absurd (let low = wedge_part s p wedge in grind (arith, nat_tests, low, test))
pair_of size s p test (inr pair) = pair

-- those of the failed facts that are of the tournament are its facts that have failed
pairs_failed : (k : Closing) (v w : Scene) (failed : List Placed) → IsReal v → FollowsClosing k v w.live → ListsFailing (facts_of k) (names_leaving k.wedges.mark) w failed
    → ListsExactly (filter (is_beyond 8) failed) (HasFailed (IsPairFact k.wedges.size v) v w)
pairs_failed k v w failed real follows failing = record { once = distinct_filter (is_beyond 8) failed failing.once; each = λ p. (to p, from p) }
  where
    facts : ListsExactly (facts_of k) (IsClosestFact k.wedges.size v)
    facts = follows.settled.closest.exact

    to : (p : Placed) → Contains (filter (is_beyond 8) failed) p → HasFailed (IsPairFact k.wedges.size v) v w p
    to p c =
        let there = filter-sound (is_beyond 8) failed p c in
        let fails = (failing.each p).0 there.0 in
        record {
          was = pair_of k.wedges.size v p there.1 ((facts.each p).0 fails.0);
          stays = unspared_stay k.wedges.mark v.live w.live p follows.led fails.1;
          fails = fails.2;
        }

    from : (p : Placed) → HasFailed (IsPairFact k.wedges.size v) v w p → Contains (filter (is_beyond 8) failed) p
    from p h =
        let unspared = staying_unspared k.wedges.mark v.live w.live p follows.led h.stays in
        filter-complete (is_beyond 8) failed p ((failing.each p).1 ((facts.each p).1 (inr h.was), unspared, h.fails)) (beyond_orders p (pair_part k.wedges.size v real p h.was))

module _ (old new : Closing) (v w : Scene) (real : IsReal v) (real' : IsReal w) (same : new.wedges.size ≡ old.wedges.size) (follows : FollowsClosing old v w.live) (settled : IsSettledClosing new w) where
  -- the slots that have another candidate hold another pair
  slots_changed : ListsChanged old.wedges.size (candidate_told old.wedges) (candidate_told new.wedges) new.wedges.changed → ListsExactly new.wedges.changed (λ k. slice_get (near_slots old.wedges.size v) k ≢ slice_get (near_slots old.wedges.size w) k)
  slots_changed changed =
      changed_pairs old.wedges.size v w real real' (candidate_told old.wedges) (candidate_told new.wedges) old.pairs.slots new.pairs.slots
      follows.settled.octants.wedges.candidates follows.settled.held
      (subst (λ n. AreCandidates n w (candidate_told new.wedges)) same settled.octants.wedges.candidates) (subst (λ n. HoldCandidates n (candidate_told new.wedges) new.pairs.slots) same settled.held) new.wedges.changed changed

  orders_within : (out out' : Change) (before after : ℕ) → HasChanged old.wedges.facts new.wedges.facts out out' → AreFewBelow 8 old.wedges.mark old.wedges.orders new.wedges.orders out out' before after
      → HasRisenWithin (MayOrdersAsk eight_directions v w) before after
  orders_within out out' before after changed few =
      eight_ask old.wedges new.wedges v w real real' follows.settled.octants settled.octants out out' before after follows.led changed few

  closest_within : (failed : List Placed) (out : Change) (before after : ℕ) → ListsFailing (facts_of old) (names_leaving old.wedges.mark) w failed → AreFewTests old new failed out before after
      → HasRisenWithin (MayClosestAsk old.wedges.size v w) before after
  closest_within failed out before after failing few =
      let orders = orders_within out few.orders_out before few.mid few.reported few.orders in
      let tested = few.pairs in
      let ordered = orders.2 in (
        orders.0 + (old.wedges.size + 3) * (length new.wedges.changed + length (filter (is_beyond 8) failed)),
        record { in_orders = orders.0; orders = orders.1; slots = new.wedges.changed; other = slots_changed few.changed; failed = filter (is_beyond 8) failed; exactly = pairs_failed old v w failed real follows failing; bound = omega arith },
        omega (arith, tested, ordered),
      )

-- what a settle spends is within the bound of a kept closest pair
pub closing_frugal : (old new : Closing) (size : ℕ) (keep : Keep) (v w : Scene) (failed : List Placed) (out out' : Change) (before after : ℕ) → IsClosingFor old size keep → IsClosingFor new size keep → AreInStep size keep v w
    → FollowsClosing old v w.live → HasMembers new w.live → IsSettledClosing new w → ListsFailing (facts_of old) (names_leaving old.wedges.mark) w failed → HasChanged (facts_of old) (facts_of new) out out'
    → AreFewTests old new failed out before after → HasRisenWithin (MayAsk size keep v w) before after
closing_frugal old new size keep v w failed out out' before after kind kind' step follows members settled failing changed few =
    subst (λ (q : Keep). HasRisenWithin (MayAsk size q v w) before after) (sym kind.0)
    (subst (λ n. HasRisenWithin (MayClosestAsk n v w) before after) kind.1
    (closest_within old new v w step.old_real step.new_real (kind'.1 ∙ sym kind.1) follows settled failed out before after failing few))
