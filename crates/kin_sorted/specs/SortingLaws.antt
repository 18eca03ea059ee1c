-- The determination law of a sorted list.
use Rattle.kin_motion.specs.Kinetics.{HaveSameLive, AllHold}
use Rattle.kin_motion.specs.Scene.{Scene, IsReal}
use Rattle.kin_motion.specs.Rankings.{IsRanking}
use Rattle.kin_motion.specs.Ranks.{Ranks}
use Rattle.kin_sorted.specs.Sorting.{Sorting, IsSettled}
use Rattle.kin_motion.proofs.RankedFacts.{order_facts_determined, live_elsewhere}

pub determined_lem : {R : Type 0} (r : Ranks) → IsRanking r → (k : Sorting R) (v w : Scene) → IsReal v → IsSettled r k v → HaveSameLive v w → IsReal w
    → AllHold w k.facts → IsSettled r k w
determined_lem {R} r law k v w real before same real' hold =
    let live = live_elsewhere v w r k.items same before.live in
    let after = order_facts_determined v w r k.items k.facts (law.strict v real) (law.strict w real') before.live live before.order before.exact hold in
    record { live = live; order = after.0; exact = after.1 }
