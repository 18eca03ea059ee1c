-- What a repair of a kinetic range spends is within the bound of its keep.
use Rattle.std.proofs.Common.{◌≡◌, inl, inr, refl, sym, ap, ◌∙◌, subst, List, [], ◌∷◌, ℕ, zero, suc, pos}
use Rattle.std.specs.Prelude.{Some, slice_get, ◌↔◌}
use Rattle.std.proofs.lemmas.Option.{same_Some}
use Rattle.kin_motion.specs.declared.fact.Placed.{Placed}
use Rattle.kin_motion.specs.declared.keep.Keep.{Keep}
use Rattle.kin_motion.specs.Deltas.{Change}
use Rattle.kin_motion.specs.Kinetics.{ListsFailing, HasChanged}
use Rattle.kin_motion.specs.Octants.{Direction, direction}
use Rattle.kin_motion.specs.Orders.{IsRangeFact, IsOrder, IsOrderFact}
use Rattle.kin_motion.specs.Scene.{Scene}
use Rattle.kin_motion.specs.Sets.{ListsExactly}
use Rattle.kin_motion.specs.Spending.{AreInStep, IsFactAlong, HasRisenWithin, MayAsk}
use Rattle.kin_motion.proofs.SetLaws.{exactly_in_words}
use Rattle.kin_motion.proofs.SpendingLaws.{order_fact-part}
use Rattle.kin_list.specs.declared.mark.Mark.{Mark}
use Rattle.kin_list.specs.Keeping.{LeadsTo}
use Rattle.kin_list.specs.Listing.{names_leaving}
use Rattle.kin_wedge.proofs.OrdersAsk.{AreOrdersAlong, orders_ask}
use Rattle.kin_range.specs.Ranging.{Ranging, facts_of, IsSettledRanging, IsRangingAtRest, HasMembers, IsRangingFor, FollowsRanging, AreFewTests}

-- along x and along y
both_ways : List Direction
both_ways = direction (pos 1) (pos 0) ∷ direction (pos 0) (pos 1) ∷ []

along_both : (r : Ranging) (s : Scene) → IsSettledRanging r s → AreOrdersAlong both_ways s (r.by_x.items ∷ r.by_y.items ∷ [])
unfolding both_ways
along_both r s settled zero d e = subst (λ (way : Direction). IsOrder s way.dx way.dy r.by_x.items) (same_Some _ d e) settled.x_order
along_both r s settled (suc zero) d e = subst (λ (way : Direction). IsOrder s way.dx way.dy r.by_y.items) (same_Some _ d e) settled.y_order
along_both r s settled (suc (suc k)) d e = absurd cc

-- a fact of a range is a fact along x or along y
range_fact : (s : Scene) (p : Placed) → IsRangeFact s p ↔ IsFactAlong both_ways s p
unfolding both_ways
range_fact s p = (to, λ f. at p.part refl f.way f.known f.fact)
  where
    to : IsRangeFact s p → IsFactAlong both_ways s p
    to (inl f) =
        let part = order_fact-part s (pos 1) (pos 0) 0 p f in
        record { way = direction (pos 1) (pos 0); known = ap (slice_get both_ways) part; fact = subst (λ n. IsOrderFact s (pos 1) (pos 0) n p) (sym part) f }
    to (inr f) =
        let part = order_fact-part s (pos 0) (pos 1) 1 p f in
        record { way = direction (pos 0) (pos 1); known = ap (slice_get both_ways) part; fact = subst (λ n. IsOrderFact s (pos 0) (pos 1) n p) (sym part) f }

    at : (part : ℕ) → p.part ≡ part → (way : Direction) → slice_get both_ways p.part ≡ Some way → IsOrderFact s way.dx way.dy p.part p → IsRangeFact s p
    at zero here way known f =
        let same : direction (pos 1) (pos 0) ≡ way = same_Some _ way (sym (ap (slice_get both_ways) here) ∙ known) in
        inl (subst (λ n. IsOrderFact s (pos 1) (pos 0) n p) here (subst (λ (d : Direction). IsOrderFact s d.dx d.dy p.part p) (sym same) f))
    at (suc zero) here way known f =
        let same : direction (pos 0) (pos 1) ≡ way = same_Some _ way (sym (ap (slice_get both_ways) here) ∙ known) in
        inr (subst (λ n. IsOrderFact s (pos 0) (pos 1) n p) here (subst (λ (d : Direction). IsOrderFact s d.dx d.dy p.part p) (sym same) f))
    at (suc (suc n)) here way known f = absurd (let none = sym (ap (slice_get both_ways) here) ∙ known in cc)

facts_along : (r : Ranging) (s : Scene) → IsSettledRanging r s → ListsExactly (facts_of r) (IsFactAlong both_ways s)
facts_along r s settled = exactly_in_words (facts_of r) (IsRangeFact s) (IsFactAlong both_ways s) (range_fact s) settled.exact

-- at rest it follows the scene in which it was settled
pub range_follows_scene : (r : Ranging) (s : Scene) (live : List ℕ) → IsRangingAtRest r → HasMembers r s.live → IsSettledRanging r s → s.live ≡ live → FollowsRanging r s live
range_follows_scene r s live rest members settled same = record { settled = settled; led = subst (λ (mark : Mark). LeadsTo mark s.live live) (sym rest.rest) same }

-- what a settle spends is within the bound of a kept range
pub range_frugal : (old new : Ranging) (size : ℕ) (keep : Keep) (v w : Scene) (failed : List Placed) (out out' : Change) (before after : ℕ) → IsRangingFor old size keep → IsRangingFor new size keep → AreInStep size keep v w
    → FollowsRanging old v w.live → HasMembers new w.live → IsSettledRanging new w → ListsFailing (facts_of old) (names_leaving old.by_x.mark) w failed → HasChanged (facts_of old) (facts_of new) out out'
    → AreFewTests old new out out' before after → HasRisenWithin (MayAsk size keep v w) before after
unfolding both_ways
range_frugal old new size keep v w failed out out' before after kind kind' step follows members settled failing changed few =
    subst (λ (k : Keep). HasRisenWithin (MayAsk size k v w) before after) (sym kind.0)
    (orders_ask v w step.old_real step.new_real both_ways (old.by_x.items ∷ old.by_y.items ∷ []) (new.by_x.items ∷ new.by_y.items ∷ []) (along_both old v follows.settled) (along_both new w settled) old.by_x.mark (facts_of old) (facts_of new) out
    out' before after follows.led (facts_along old v follows.settled) (facts_along new w settled) changed few)
