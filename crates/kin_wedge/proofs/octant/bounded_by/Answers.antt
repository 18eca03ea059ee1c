use Rattle.kin_wedge.proofs.octant.bounded_by.Goals as goal

pub returns-in-false-eq1-clause-second : goal.returns-in-false-eq1-clause-second
returns-in-false-eq1-clause-second c = rw (c.in-false-eq1.is-0, c.in-false-eq1.is-1)
