-- What the eight orders ask is within the bound of a keep along eight directions.
use Rattle.std.proofs.Common.{sym, subst, ℕ}
use Rattle.kin_motion.specs.declared.fact.Placed.{Placed}
use Rattle.kin_motion.specs.ClosestFacts.{IsWedgeFact}
use Rattle.kin_motion.specs.Deltas.{Change}
use Rattle.kin_motion.specs.Kinetics.{HasChanged}
use Rattle.kin_motion.specs.Octants.{Direction, eight_directions}
use Rattle.kin_motion.specs.Orders.{IsOrder}
use Rattle.kin_motion.specs.Scene.{Scene, IsReal}
use Rattle.kin_motion.specs.Sets.{ListsExactly}
use Rattle.kin_motion.specs.Spending.{IsFactAlong, HasRisenWithin, MayOrdersAsk}
use Rattle.kin_motion.proofs.SameOctants.{way_of}
use Rattle.kin_motion.proofs.SetLaws.{exactly_in_words}
use Rattle.kin_list.specs.Keeping.{LeadsTo}
use Rattle.kin_wedge.specs.Costs.{AreFewBelow}
use Rattle.kin_wedge.specs.Rows.{row_of}
use Rattle.kin_wedge.specs.Wedging.{Wedging, IsSettledWedging}
use Rattle.kin_wedge.proofs.OrdersAsk.{AreOrdersAlong, orders_ask}

along_eight : (k : Wedging) (s : Scene) → IsSettledWedging k s → AreOrdersAlong eight_directions s k.orders
along_eight k s settled part d known =
    let way = way_of part d known in
    subst (λ (e : Direction). IsOrder s e.dx e.dy (row_of k.orders part)) (sym way.1) (settled.ordered.order part way.0)

eight_facts : (k : Wedging) (s : Scene) → IsSettledWedging k s → ListsExactly k.facts (IsFactAlong eight_directions s)
eight_facts k s settled = exactly_in_words k.facts (IsWedgeFact s) (IsFactAlong eight_directions s) (λ p. (to p, from p)) settled.wedges.exact
  where
    to : (p : Placed) → IsWedgeFact s p → IsFactAlong eight_directions s p
    to p f = record { way = f.way; known = f.known; fact = f.fact }

    from : (p : Placed) → IsFactAlong eight_directions s p → IsWedgeFact s p
    from p f = record { way = f.way; known = f.known; fact = f.fact }

-- where a mark has led from the one scene, in which they were settled, to the other
pub eight_ask : (old new : Wedging) (v w : Scene) → IsReal v → IsReal w → IsSettledWedging old v → IsSettledWedging new w → (out out' : Change) (before after : ℕ) → LeadsTo old.mark v.live w.live
    → HasChanged old.facts new.facts out out' → AreFewBelow 8 old.mark old.orders new.orders out out' before after → HasRisenWithin (MayOrdersAsk eight_directions v w) before after
eight_ask old new v w real real' was is out out' before after leads changed few =
    orders_ask v w real real' eight_directions old.orders new.orders (along_eight old v was) (along_eight new w is) old.mark old.facts new.facts out out' before after leads
    (eight_facts old v was) (eight_facts new w is) changed few
