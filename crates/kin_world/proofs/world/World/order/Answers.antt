use Rattle.kin_motion.specs.declared.keep.Keep.TheVariants as keep
use Rattle.kin_world.proofs.Sufficiency.{answers_suffice}
use Rattle.kin_world.proofs.world.World.order.Goals as goal

pub returns : goal.returns
returns c = record {
  order = λ dx dy there.
      rw c.in-Ok.ensures.items
      (c.order.ensures _ dx dy _ (c.structure.ensures.kept (keep.Order dx dy) there));
  suffices = λ dx dy there v hold.
      rw c.in-Ok.ensures.items
      ((answers_suffice _ v c.structure.ensures.whole hold).order c.args.s dx dy _ there (c.order.ensures _ dx dy _ (c.structure.ensures.kept (keep.Order dx dy) there)));
}
