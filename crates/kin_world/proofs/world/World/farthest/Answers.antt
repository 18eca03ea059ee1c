use Rattle.kin_motion.specs.declared.keep.Keep.TheVariants as keep
use Rattle.kin_world.proofs.Sufficiency.{answers_suffice}
use Rattle.kin_world.proofs.world.World.farthest.Goals as goal

pub returns : goal.returns
returns c =
    let is = c.farthest.ensures _ _ (c.structure.ensures.kept keep.Diameter c.place_of.ensures) in
    record { farthest = is; suffices = λ v hold. (answers_suffice _ v c.structure.ensures.whole hold).farthest c.place_of.result c.farthest.result c.place_of.ensures is }
