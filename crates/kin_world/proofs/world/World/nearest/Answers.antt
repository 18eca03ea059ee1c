use Rattle.kin_motion.proofs.LiveLaws.{live-members}
use Rattle.kin_world.proofs.Vocabulary.{◌∙◌}
use Rattle.kin_world.proofs.world.World.nearest.Goals as goal

pub nearest-requires-clause-live : goal.nearest-requires-clause-live
nearest-requires-clause-live c =
    let live = rw (← c.self.view_is) at c.requires.live in
    live-members c.self.inside.upkeep.motions c.args.no ∙ live
