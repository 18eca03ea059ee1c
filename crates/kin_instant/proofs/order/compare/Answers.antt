use Rattle.kin_instant.proofs.Places.{instants_exactly}
use Rattle.kin_instant.proofs.order.compare.Goals as goal

pub returns : goal.returns
returns c =
    let x = instants_exactly c.args.x.now c.args.y.now c.relation.result c.relation.ensures.left.form c.relation.ensures.right.form c.relation.ensures.order in
    record { less = x.less; equal = x.equal; greater = x.greater }
