use Rattle.kin_wedge.proofs.sides.Sides.octant.Goals as goal

pub returns-in-true-false-false-true-clause-value : goal.returns-in-true-false-false-true-clause-value
returns-in-true-false-false-true-clause-value c =
    let i = c.in-true-false-false-true in
    rw (i.is-0, i.is-1, i.is-2, i.is-3)
