-- The determination law of an overlay.
use Rattle.kin_motion.specs.Kinetics.{HaveSameLive, AllHold}
use Rattle.kin_motion.specs.Scene.{Scene, IsReal}
use Rattle.kin_chain.proofs.MergeDetermined.{merge_is_determined}
use Rattle.kin_overlay.specs.Overlays.{Merge, IsAtRest, IsSettled, AreChains}

pub determined_lem : (m : Merge) (v w : Scene) → IsAtRest m → IsReal v → IsSettled m v → HaveSameLive v w → IsReal w → AreChains m w → AllHold w m.facts → IsSettled m w
determined_lem m v w rest real settled same real' chains hold = merge_is_determined v w m.a m.b m.chain m.part m.facts real real' settled chains.0 chains.1 hold
