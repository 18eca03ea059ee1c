-- The laws of a kinetic range.
use Rattle.std.proofs.Common.{◌≡◌, inl, inr, sym, ap, ◌∙◌, subst, List, ℕ, ℤ, pos, false}
use Rattle.std.specs.Prelude.{Contains, ◌↔◌}
use Rattle.std.proofs.lemmas.List.Elements.{All-contains, Contains-get_or}
use Rattle.kin_motion.specs.declared.fact.Placed.{Placed}
use Rattle.kin_motion.specs.declared.keep.Keep.{Keep}
use Rattle.kin_motion.specs.Kinetics.{HaveSameLive, AllHold}
use Rattle.kin_motion.specs.Live.{IsKeepFact}
use Rattle.kin_motion.specs.Orders.{IsOrder, IsOrderFact, IsRangeFact, neighbour_facts}
use Rattle.kin_motion.specs.Scene.{Scene, IsReal, Holds}
use Rattle.kin_motion.specs.Sets.{ListsExactly}
use Rattle.kin_motion.proofs.FactLaws.{neighbour_facts-exact, order_facts_determined}
use Rattle.kin_motion.proofs.RealLaws.{real_line_laws}
use Rattle.kin_motion.proofs.SetLaws.{exactly_in_words}
use Rattle.kin_list.specs.declared.mark.Mark.{Mark}
use Rattle.kin_list.specs.Listing.{HasMarked, names_leaving}
use Rattle.kin_range.specs.Ranging.{Ranging, facts_of, members_of, IsSettledRanging, IsRangingAtRest, HasMembers, IsRangingFor, StaysRanging}

module _ (r : Ranging) (v w : Scene) (real : IsReal v) (real' : IsReal w) (same : HaveSameLive v w) (before : IsSettledRanging r v) (hold : AllHold w (facts_of r)) where
  -- an order whose facts are among those of the range stays, with its facts
  order_there : (dx dy : ℤ) (part : ℕ) (xs : List ℕ) → IsOrder v dx dy xs → ((p : Placed) → IsOrderFact v dx dy part p → Contains (facts_of r) p)
      → IsOrder w dx dy xs × ((p : Placed) → IsOrderFact v dx dy part p ↔ IsOrderFact w dx dy part p)
  order_there dx dy part xs o listed =
      let facts = neighbour_facts v dx dy part xs in
      let exact = neighbour_facts-exact v dx dy part (real_line_laws v real) xs o in
      let there =
      order_facts_determined v w dx dy part xs facts (real_line_laws w real') same o exact
      (λ n d l. All-contains (λ (q : Placed). Holds w q.fact) (facts_of r) _ hold (listed _ ((exact.each _).0 (Contains-get_or facts n d l)))) in
      (there.0, λ p. (λ f. (there.1.each p).0 ((exact.each p).1 f), λ f. (exact.each p).0 ((there.1.each p).1 f)))

  x_there : IsOrder w (pos 1) (pos 0) r.by_x.items × ((p : Placed) → IsOrderFact v (pos 1) (pos 0) 0 p ↔ IsOrderFact w (pos 1) (pos 0) 0 p)
  x_there = order_there (pos 1) (pos 0) 0 r.by_x.items before.x_order (λ p f. (before.exact.each p).1 (inl f))

  y_there : IsOrder w (pos 0) (pos 1) r.by_y.items × ((p : Placed) → IsOrderFact v (pos 0) (pos 1) 1 p ↔ IsOrderFact w (pos 0) (pos 1) 1 p)
  y_there = order_there (pos 0) (pos 1) 1 r.by_y.items before.y_order (λ p f. (before.exact.each p).1 (inr f))

  forth : (p : Placed) → IsRangeFact v p → IsRangeFact w p
  forth p (inl f) = inl ((x_there.1 p).0 f)
  forth p (inr f) = inr ((y_there.1 p).0 f)

  back : (p : Placed) → IsRangeFact w p → IsRangeFact v p
  back p (inl f) = inl ((x_there.1 p).1 f)
  back p (inr f) = inr ((y_there.1 p).1 f)

  settled_there : IsSettledRanging r w
  settled_there = record { x_order = x_there.0; y_order = y_there.0; exact = exactly_in_words (facts_of r) (IsRangeFact v) (IsRangeFact w) (λ p. (forth p, back p)) before.exact }

-- the facts determine the orders
pub determined_lem : (r : Ranging) (v w : Scene) → IsRangingAtRest r → IsReal v → IsSettledRanging r v → HaveSameLive v w → IsReal w → Unit {0} → AllHold w (facts_of r) → IsSettledRanging r w
determined_lem r v w rest real before same real' grounded hold = settled_there r v w real real' same before hold

-- ---- as the structure of a keep
pub range_spares_none : (r : Ranging) (p : Placed) → IsRangingAtRest r → names_leaving r.by_x.mark p ≡ false
range_spares_none r p rest = ap (λ (mark : Mark). names_leaving mark p) rest.rest

pub range_kind_stays : (old new : Ranging) (size : ℕ) (keep : Keep) → StaysRanging old new → IsRangingFor old size keep → IsRangingFor new size keep
range_kind_stays old new size keep same kind = (kind.0, same ∙ kind.1)

pub range_members_stay : (old new : Ranging) (s : Scene) → HasMembers old s.live → StaysRanging old new → IsRangingAtRest new → IsSettledRanging new s → HasMembers new s.live
range_members_stay old new s members same rest settled = record { members = subst (λ (mark : Mark). HasMarked mark (members_of new) s.live) (sym rest.rest) settled.x_order.all; whole = rest.whole }

pub range_exact : (r : Ranging) (size : ℕ) (keep : Keep) (s : Scene) → IsRangingFor r size keep → HasMembers r s.live → IsSettledRanging r s → ListsExactly (facts_of r) (IsKeepFact size s keep)
range_exact r size keep s kind members settled = subst (λ (q : Keep). ListsExactly (facts_of r) (IsKeepFact size s q)) (sym kind.0) settled.exact
