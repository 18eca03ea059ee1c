use Rattle.kin_wedge.proofs.answer.steps_in.Goals as goal

pub returns-then-from_end : goal.returns-then-from_end
returns-then-from_end c = rw c.if-from_end.true

pub returns-else-from_end : goal.returns-else-from_end
returns-else-from_end c = rw c.if-from_end.false
