use Rattle.kin_motion.specs.declared.keep.Keep.TheVariants as keep
use Rattle.kin_world.proofs.Sufficiency.{answers_suffice}
use Rattle.kin_world.proofs.world.World.closest.Goals as goal

pub returns : goal.returns
returns c =
    let is = c.closest.ensures _ _ (c.structure.ensures.kept keep.Closest c.place_of.ensures) in
    record { closest = is; suffices = λ v hold. (answers_suffice _ v c.structure.ensures.whole hold).closest c.place_of.result c.closest.result c.place_of.ensures is }
