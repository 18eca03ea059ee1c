use Rattle.std.proofs.Common.{rules}
use Rattle.kin_algebra.proofs.Results.{from_two}
use Rattle.kin_world.proofs.FarthestLaws.{asks_as_kept}
use Rattle.kin_world.proofs.structure.Structure.settle.Goals as goal

pub returns-in-Extreme-clause-kind : goal.returns-in-Extreme-clause-kind
returns-in-Extreme-clause-kind g c = rw c.in-Extreme.is c.repair_all-in-Extreme.ensures.kind

pub returns-in-Hull-clause-settled : goal.returns-in-Hull-clause-settled
returns-in-Hull-clause-settled g c = search rules

pub repair_pair-requires-clause-failing : goal.repair_pair-requires-clause-failing
repair_pair-requires-clause-failing g c = (rw c.in-Diameter.is at c.requires.failing).listed

pub returns-in-Diameter-clause-within : goal.returns-in-Diameter-clause-within
returns-in-Diameter-clause-within g c =
    rw c.in-Diameter.is
    (from_two c.repair_pair.result
    (λ within settled size kept v kind step was same. asks_as_kept c.in-Diameter.pair size kept v (g.O.Signs.scene c.args.now.now) c.args.steps.now c.repair_pair.new.steps kind (within v step.old_real was same))
    c.repair_pair.ensures.within c.repair_pair.ensures.settled)
