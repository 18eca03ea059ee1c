use Rattle.std.proofs.lemmas.Result.{IfOk-weaker}
use Rattle.kin_motion.specs.declared.keep.Keep.TheVariants as keep
use Rattle.kin_world.proofs.Sufficiency.{answers_suffice}
use Rattle.kin_world.proofs.world.World.hull.Goals as goal

pub returns : goal.returns
returns c = record {
  hull = IfOk-weaker c.hull.result _ _ (λ cycle each. each _ _ (c.structure.ensures.kept keep.Hull c.place_of.ensures)) c.hull.ensures;
  suffices = IfOk-weaker c.hull.result _ _
      (λ cycle each v hold. (answers_suffice _ v c.structure.ensures.whole hold).hull c.place_of.result cycle.items c.place_of.ensures (each _ _ (c.structure.ensures.kept keep.Hull c.place_of.ensures)))
      c.hull.ensures;
}
