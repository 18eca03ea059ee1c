use Rattle.kin_algebra.proofs.Results.{from_two}
use Rattle.kin_world.proofs.CrossingLaws.{crossed_nothing, leg_may}
use Rattle.kin_world.proofs.Beginnings.{begun, first_taken, in_rest, one_less}
use Rattle.kin_world.proofs.crossing.begin_first.Goals as goal

pub take_up-requires : goal.take_up-requires
take_up-requires g c = record { sound = c.requires.ready.sound; may = leg_may (crossed_nothing c.requires.ready) c.args.leg.now c.requires.first.0 c.requires.first.1 c.requires.begins }

pub returns-clause-begun : goal.returns-clause-begun
returns-clause-begun g c =
    from_two c.take_up.result
    (λ taken cost. λ more start crossed. begun crossed c.args.leg.now c.requires.first.0 c.requires.first.1 c.requires.begins c.take_first.ensures.size
    (first_taken c.args.legs.now.legs c.take_first.new.self.legs c.take_first.result c.args.leg.now c.requires.first.0 c.requires.first.1 c.take_first.ensures.legs c.take_first.ensures.none) taken c.take_up.new.steps cost)
    c.take_up.ensures.taken_up c.take_up.ensures.cost

pub returns-clause-shorter : goal.returns-clause-shorter
returns-clause-shorter g c =
    one_less c.args.leg.now c.requires.first.1
    (first_taken c.args.legs.now.legs c.take_first.new.self.legs c.take_first.result c.args.leg.now c.requires.first.0 c.requires.first.1 c.take_first.ensures.legs c.take_first.ensures.none)

pub returns-clause-fewer : goal.returns-clause-fewer
returns-clause-fewer g c = λ l there.
    in_rest c.args.leg.now c.requires.first.1
    (first_taken c.args.legs.now.legs c.take_first.new.self.legs c.take_first.result c.args.leg.now c.requires.first.0 c.requires.first.1 c.take_first.ensures.legs c.take_first.ensures.none) l there
