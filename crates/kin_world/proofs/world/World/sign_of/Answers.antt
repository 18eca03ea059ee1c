use Rattle.kin_world.proofs.Vocabulary.{IfSome_then}
use Rattle.kin_world.proofs.AskLaws.{none_when, has_certificate, no_certificate}
use Rattle.kin_world.proofs.world.World.sign_of.Goals as goal

pub returns-clause-some : goal.returns-clause-some
returns-clause-some c =
    rw (← c.self.view_is) (IfSome_then c.sign_of.result c.sign_of.ensures.some (has_certificate c.self.inside.upkeep.table.live c.args.structure c.args.part c.args.form.now))

pub returns-clause-none : goal.returns-clause-none
returns-clause-none c =
    let tell = c.sign_of.ensures.none in
    let all = no_certificate c.self.inside.upkeep.table.live c.args.structure c.args.part c.args.form.now in
    rw (← c.self.view_is) (none_when c.sign_of.result (λ e. all.0 (tell.0 e), λ never. tell.1 (all.1 never)))
