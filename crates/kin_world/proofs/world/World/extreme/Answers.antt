use Rattle.kin_motion.specs.declared.keep.Keep.TheVariants as keep
use Rattle.kin_world.proofs.Sufficiency.{answers_suffice}
use Rattle.kin_world.proofs.world.World.extreme.Goals as goal

pub returns : goal.returns
returns c = record {
  extreme = λ dx dy there. c.extreme.ensures _ dx dy _ (c.structure.ensures.kept (keep.Extreme dx dy) there);
  suffices = λ dx dy there v hold.
      (answers_suffice _ v c.structure.ensures.whole hold).extreme c.args.s dx dy c.extreme.result there (c.extreme.ensures _ dx dy _ (c.structure.ensures.kept (keep.Extreme dx dy) there));
}
