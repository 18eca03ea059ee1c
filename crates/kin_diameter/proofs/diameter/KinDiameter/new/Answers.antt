use Rattle.std.proofs.Common.{ap}
use Rattle.kin_diameter.specs.Sweeping.{Sweeping}
use Rattle.kin_diameter.proofs.Vacancy.{vacant_settled}
use Rattle.kin_diameter.proofs.diameter.KinDiameter.new.Goals as goal

pub returns-clause-settled : goal.returns-clause-settled
returns-clause-settled c =
    let seats = c.in_ok-new.field-0 in
    vacant_settled c.args.size _ _ _ _ seats.tourney c.new.ensures.items c.new-2.ensures.items (ap (λ (w : Sweeping). w.breakpoints) c.new-3.ensures) (ap (λ (w : Sweeping). w.facts) c.new-3.ensures)
    c.in_ok-new.ensures.size c.in_ok-new.ensures.slots c.in_ok-new.ensures.facts c.in_ok-new.ensures.settled
