use Rattle.std.proofs.Common.{refl, ap, ap₂, ◌∙◌}
use Rattle.kin_motion.specs.Scene.{scene_at}
use Rattle.kin_fail.specs.declared.now.Now.{Now}
use Rattle.kin_cases.proofs.Reports.{lists_failing}
use Rattle.kin_cases.proofs.failing.failing_at.Goals as goal

pub returns-clause-real : goal.returns-clause-real
returns-clause-real g c = record { motions = c.args.now.now.motions.now; moment = c.args.now.now.moment.now; canonical = c.plain-plain.ensures.canonical; live = refl; sign = λ f. refl }

pub returns-clause-failing : goal.returns-clause-failing
returns-clause-failing g c = λ live spared told same.
    let seen = c.at-sight.result.signs.now in
    lists_failing (scene_at c.args.now.now.motions.now c.args.now.now.moment.now) (scene_at seen.motions.now seen.moment.now) c.args.facts.now live _ _ _ spared
    (ap (λ (n : Now). scene_at n.motions.now n.moment.now) c.at-sight.ensures ∙ ap₂ scene_at c.plain-plain.ensures.motions c.plain-plain.ensures.moment) refl same told c.in_ok-failed.ensures
