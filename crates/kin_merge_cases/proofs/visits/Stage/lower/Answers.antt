use Rattle.std.proofs.Common.{refl}
use Rattle.kin_motion.specs.Scene.{scene_at}
use Rattle.kin_motion.proofs.ReflectedLaws.{reflected-real}
use Rattle.kin_merge_cases.proofs.visits.Stage.lower.Goals as goal

pub visit-requires-clause-real : goal.visit-requires-clause-real
visit-requires-clause-real g c =
    let watch = c.watch-watch.result in
    reflected-real (scene_at watch.motions.now watch.moment.now) (record { motions = watch.motions.now; moment = watch.moment.now; canonical = c.plain-now.ensures.canonical; live = refl; sign = λ f. refl })
