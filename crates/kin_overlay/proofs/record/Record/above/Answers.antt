use Rattle.kin_overlay.proofs.record.Record.above.Goals as goal

pub returns-in-B : goal.returns-in-B
returns-in-B c = rw c.in-B.is
