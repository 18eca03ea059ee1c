use Rattle.std.proofs.Common.{refl, ◌∙◌, Some}
use Rattle.kin_legs.specs.Paths.{lasting, plan_of}
use Rattle.kin_script.specs.Changes.{restarts}
use Rattle.kin_check.proofs.Changing.{changed_sound, may_restart, plan_there}
use Rattle.kin_check.proofs.change.replace.Goals as goal

pub returns-clause-sound : goal.returns-clause-sound
returns-clause-sound c =
    let s = c.args.state.now in
    let n = c.args.no in
    let live = plan_there (plan_of s.plans n) c.plan.result c.plan.ensures ∙ c.if-is_none.ensures in
    changed_sound s c.requires.sound n (restarts c.args.m) c.requires.slow (may_restart s n c.args.m live) (Some (lasting c.args.m)) refl c.put.new.self c.put.ensures
