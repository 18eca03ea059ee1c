use Rattle.std.proofs.Common.{refl, ◌∙◌, None}
use Rattle.kin_legs.specs.Paths.{plan_of}
use Rattle.kin_script.specs.Changes.{leaves}
use Rattle.kin_check.proofs.Changing.{changed_sound, may_leave, plan_there}
use Rattle.kin_check.proofs.change.remove.Goals as goal

pub returns-clause-sound : goal.returns-clause-sound
returns-clause-sound c =
    let s = c.args.state.now in
    let n = c.args.no in
    let live = plan_there (plan_of s.plans n) c.plan.result c.plan.ensures ∙ c.if-is_none.ensures in
    changed_sound s c.requires.sound n leaves tt (may_leave s n live) None refl c.clear.new.self c.clear.ensures
