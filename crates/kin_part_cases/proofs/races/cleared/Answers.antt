use Rattle.std.proofs.Common.{ap, ℕ}
use Rattle.kin_tourney.specs.declared.along.Along.{Along}
use Rattle.kin_tourney.specs.Tournament.{Tournament}
use Rattle.kin_part_cases.proofs.RaceSlots.{none_left}
use Rattle.kin_part_cases.proofs.races.cleared.Goals as goal

pub first_seen-requires-clause-own : goal.first_seen-requires-clause-own
first_seen-requires-clause-own g c =
    let slots = λ (t : Tournament Along ℕ). t.slots in
    λ i a e. absurd (none_left _ _ _ _ _ c.in_ok-tourney.ensures.slots (ap slots c.set.ensures) (ap slots c.set-2.ensures) (ap slots c.clear.ensures) (ap slots c.clear-2.ensures) i a e)

pub first_seen-requires-clause-live : goal.first_seen-requires-clause-live
first_seen-requires-clause-live g c =
    let slots = λ (t : Tournament Along ℕ). t.slots in
    λ i a e. absurd (none_left _ _ _ _ _ c.in_ok-tourney.ensures.slots (ap slots c.set.ensures) (ap slots c.set-2.ensures) (ap slots c.clear.ensures) (ap slots c.clear-2.ensures) i a e)
