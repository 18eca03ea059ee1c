-- The determination law of the octants.
use Rattle.std.proofs.lemmas.List.Elements.{All-contains}
use Rattle.kin_motion.specs.declared.fact.Placed.{Placed}
use Rattle.kin_motion.specs.ClosestFacts.{IsWedgeFact}
use Rattle.kin_motion.specs.Kinetics.{HaveSameLive, AllHold}
use Rattle.kin_motion.specs.Scene.{Scene, IsReal, Holds}
use Rattle.kin_motion.proofs.DeterminedWedges.{order_there, wedges_are_determined}
use Rattle.kin_wedge.specs.Rows.{row_of}
use Rattle.kin_wedge.specs.Wedging.{Wedging, candidate_told, IsWedgingAtRest, IsSettledWedging}

pub determined_lem : (k : Wedging) (v w : Scene) → IsWedgingAtRest k → IsReal v → IsSettledWedging k v → HaveSameLive v w → IsReal w → Unit {0} → AllHold w k.facts → IsSettledWedging k w
determined_lem k v w rest real before same real' grounded hold = record {
  ordered = record { count = before.ordered.count; order = λ part h. order_there v w real real' same held part (row_of k.orders part) h (before.ordered.order part h) };
  wedges = wedges_are_determined k.size v w (candidate_told k) k.facts real real' same before.wedges hold;
}
  where
    held : (p : Placed) → IsWedgeFact v p → Holds w p.fact
    held p f = All-contains (λ (q : Placed). Holds w q.fact) k.facts p hold ((before.wedges.exact.each p).1 f)
