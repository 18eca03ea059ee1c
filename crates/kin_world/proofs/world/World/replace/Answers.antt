use Rattle.kin_world.proofs.Vocabulary.{rules, from_two}
use Rattle.kin_world.proofs.world.World.replace.Goals as goal

pub returns-clause-replaced : goal.returns-clause-replaced
returns-clause-replaced g c = search rules

pub returns-clause-cost : goal.returns-clause-cost
returns-clause-cost g c =
    let left = c.in_ok-remove.ensures in
    from_two c.insert.result
    (λ inserted cost. record { between = c.remove.new.self; removed = left.removed; inserted = inserted; halfway = c.remove.new.steps; leaving = left.cost; entering = cost }) c.insert.ensures.inserted c.insert.ensures.cost
