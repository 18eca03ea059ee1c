use Rattle.std.proofs.Common.{refl}
use Rattle.std.specs.Prelude.{None}
use Rattle.kin_wedge.proofs.Hitting.{candidates_set}
use Rattle.kin_wedge.proofs.table.Table.clear.Goals as goal

pub returns : goal.returns
returns c = candidates_set c.self.inside.threads c.release.new.self c.args.self.now c.args.slot None None c.self.view_is c.release.ensures refl
