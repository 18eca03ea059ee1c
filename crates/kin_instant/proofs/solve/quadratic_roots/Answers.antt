use Rattle.std.proofs.Common.{rules}
use Rattle.kin_instant.proofs.BothRoots.{one_root}
use Rattle.kin_instant.proofs.solve.quadratic_roots.Goals as goal

pub returns-in_default-compare : goal.returns-in_default-compare
returns-in_default-compare c = one_root c.args.p.now c.in-Some.lower c.in-Some-root_on.upper c.in-Some.ensures c.in-Some-root_on.ensures (λ l. c.in_default-compare.not-Less (c.compare.ensures.less.1 l))

pub returns-in-Less : goal.returns-in-Less
returns-in-Less c = search rules
