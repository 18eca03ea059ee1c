use Rattle.kin_c.proofs.time.kin_step.Goals as goal

pub returns : goal.returns
returns c =
    let done = rw c.deref_mut.ensures.value at c.step-status.ensures in
    (c.step-status.result, c.code-2.ensures, rw (c.in-Some.ensures.taken, c.put.ensures) done)
