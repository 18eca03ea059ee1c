use Rattle.std.proofs.Common.{refl, sym, ◌∙◌, Some}
use Rattle.kin_legs.specs.Paths.{lasting, plan_of}
use Rattle.kin_script.specs.Changes.{enters}
use Rattle.kin_check.proofs.Changing.{changed_sound, may_enter, plan_there}
use Rattle.kin_check.proofs.change.insert.Goals as goal

pub returns-clause-sound : goal.returns-clause-sound
returns-clause-sound c =
    let s = c.args.state.now in
    let n = c.args.no in
    let free = plan_there (plan_of s.plans n) c.plan.result c.plan.ensures ∙ sym c.if-is_some.ensures in
    changed_sound s c.requires.sound n (enters c.args.m) c.requires.slow (may_enter s n c.args.m free) (Some (lasting c.args.m)) refl c.put.new.self c.put.ensures
