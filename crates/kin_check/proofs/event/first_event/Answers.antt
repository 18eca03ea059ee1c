use Rattle.std.proofs.Common.{subst, List, Option}
use Rattle.kin_motion.specs.Course.{Course}
use Rattle.kin_motion.specs.Scene.{scene_at}
use Rattle.kin_check.specs.Least.{IsLeastFailure}
use Rattle.kin_check.proofs.Firsts.{all_soon}
use Rattle.kin_check.proofs.event.first_event.Goals as goal

pub first_of-requires : goal.first_of-requires
first_of-requires g c =
    all_soon c.args.state.now.plans c.requires.sound.plannable.paths c.args.from.now c.recall_canonical.ensures c.args.facts.now c.soonest.result c.soonest.ensures

pub returns : goal.returns
returns g c =
    c.first_of.ensures c.args.state.now.plans c.args.from.now c.args.facts.now c.requires.sound.plannable.paths c.recall_canonical.ensures
    (subst (λ (ms : List (Option Course)). IsLeastFailure (scene_at ms) c.args.from.now c.args.facts.now c.least_failure-fails.result) c.in_ok-sight.ensures.motions c.least_failure-fails.ensures)
    c.soonest.ensures
