use Rattle.kin_c.proofs.time.kin_go_to_moment.Goals as goal

pub returns : goal.returns
returns c =
    let done = rw c.deref_mut.ensures.value at c.go_to_moment-status.ensures in
    (c.go_to_moment-status.result, c.code-2.ensures, rw (c.in-Some.ensures.taken, c.put.ensures) done)
