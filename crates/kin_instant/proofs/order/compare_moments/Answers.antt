use Rattle.std.proofs.Common.{rules}
use Rattle.kin_instant.proofs.Places.{moments_exactly, by_instants}
use Rattle.kin_instant.proofs.order.compare_moments.Goals as goal

pub returns-in_default : goal.returns-in_default
returns-in_default g c =
    let x = moments_exactly c.args.x.now c.args.y.now c.relation.result c.relation.ensures.left.form c.relation.ensures.right.form (by_instants c.args.x.now c.args.y.now c.relation.result c.in_default.not-Equal c.relation.ensures.order) in
    record { less = x.less; equal = x.equal; greater = x.greater; count = c.tick.ensures }

pub returns-in-Equal-clause-less : goal.returns-in-Equal-clause-less
returns-in-Equal-clause-less g c = search rules

pub returns-in-Equal-clause-equal : goal.returns-in-Equal-clause-equal
returns-in-Equal-clause-equal g c = search rules

pub returns-in-Equal-clause-greater : goal.returns-in-Equal-clause-greater
returns-in-Equal-clause-greater g c = search rules
