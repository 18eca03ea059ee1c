-- The determination law of a list.
use Rattle.kin_motion.specs.Kinetics.{HaveSameLive, AllHold}
use Rattle.kin_motion.specs.Scene.{Scene, IsReal}
use Rattle.kin_motion.proofs.FactLaws.{order_facts_determined}
use Rattle.kin_motion.proofs.RealLaws.{real_line_laws}
use Rattle.kin_list.specs.Listing.{Listing, IsAtRest, IsSettledListing}

pub determined_lem : (k : Listing) (v w : Scene) → IsAtRest k → IsReal v → IsSettledListing k v → HaveSameLive v w → IsReal w → Unit {0} → AllHold w k.facts → IsSettledListing k w
determined_lem k v w rest real before same real' grounded hold =
    let after = order_facts_determined v w k.dx k.dy 0 k.items k.facts (real_line_laws w real') same before.order before.exact hold in
    record { order = after.0; exact = after.1 }
