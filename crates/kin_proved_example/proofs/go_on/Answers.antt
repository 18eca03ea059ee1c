use Rattle.kin_proved_example.proofs.Watching.{goes_on}
use Rattle.kin_proved_example.proofs.go_on.Goals as goal

pub returns : goal.returns
returns g c = goes_on _ _ c.args.world.now c.pass.new.self c.requires c.in_ok-pass.ensures.stepped.1
