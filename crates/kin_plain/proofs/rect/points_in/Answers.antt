use Rattle.kin_motion.specs.Scene.{scene_at}
use Rattle.kin_plain.proofs.LiveLists.{all_live}
use Rattle.kin_plain.proofs.rect.points_in.Goals as goal

pub is_inside-requires-clause-live : goal.is_inside-requires-clause-live
is_inside-requires-clause-live g c = all_live (scene_at c.args.motions.now c.args.now.now) c.args.live.now c.requires.live c.loop-no.no-index 0 c.loop-no-test.true
