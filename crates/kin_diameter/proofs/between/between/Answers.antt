use Rattle.kin_diameter.proofs.ListEnds.{between_within}
use Rattle.kin_diameter.proofs.between.between.Goals as goal

pub returns : goal.returns
returns g c =
    let first = c.without_front.result in
    let last = c.before_end.result in
    between_within c.args.old.now c.args.new.now first.0.now first.1.now last.0.now last.1.now c.without_front.ensures c.before_end.ensures
