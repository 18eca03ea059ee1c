use Rattle.std.proofs.Common.{ap, ℕ, ◌+◌, ◌*◌, ◌%◌}
use Rattle.std.specs.Prelude.{Some}
use Rattle.kin_wedge.proofs.Hitting.{candidates_set, number_again}
use Rattle.kin_wedge.proofs.table.Table.fill.Goals as goal

pub returns : goal.returns
returns c =
    candidates_set c.self.inside.threads c.point.new.self c.args.self.now c.args.slot (Some (8 * c.args.candidate + c.args.slot % 8)) (Some c.args.candidate) c.self.view_is c.point.ensures
    (ap (λ (n : ℕ). Some n) (number_again c.args.candidate c.args.slot))
