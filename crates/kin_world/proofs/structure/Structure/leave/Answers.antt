use Rattle.std.proofs.Common.{rules}
use Rattle.kin_algebra.proofs.Results.{from_two}
use Rattle.kin_world.proofs.FarthestLaws.{asks_as_kept}
use Rattle.kin_world.proofs.structure.Structure.leave.Goals as goal

pub returns-in-Hull-clause-kind : goal.returns-in-Hull-clause-kind
returns-in-Hull-clause-kind g c = rw c.in-Hull.is c.let_go-in-Hull.ensures.kind

pub returns-in-Range-clause-members : goal.returns-in-Range-clause-members
returns-in-Range-clause-members g c = search rules

pub returns-in-Range-clause-settled : goal.returns-in-Range-clause-settled
returns-in-Range-clause-settled g c = search rules

pub returns-in-Diameter-clause-within : goal.returns-in-Diameter-clause-within
returns-in-Diameter-clause-within g c =
    rw c.in-Diameter.is
    (from_two c.follow_hull.result
    (λ within settled size kept v kind step was members left. asks_as_kept c.in-Diameter.pair size kept v (g.O.Signs.scene c.args.now.now) c.args.steps.now c.follow_hull.new.steps kind (within v was left))
    c.follow_hull.ensures.within c.follow_hull.ensures.settled)
