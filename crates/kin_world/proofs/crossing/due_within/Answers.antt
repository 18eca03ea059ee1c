use Rattle.std.proofs.Common.{inl, inr}
use Rattle.kin_world.proofs.crossing.due_within.Goals as goal

pub returns-in_default-clause-value : goal.returns-in_default-clause-value
returns-in_default-clause-value g c = inl (c.failing.ensures.none.0 c.in_default.is)

pub returns-then-is_after-clause-value : goal.returns-then-is_after-clause-value
returns-then-is_after-clause-value g c = inr (c.in-Some.moment, rw c.in-Some.is at c.failing.ensures.least, c.is_after.ensures.value.0 c.if-is_after.true)
