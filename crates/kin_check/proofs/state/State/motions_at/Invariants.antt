use Rattle.kin_check.proofs.Motions.{AreUpTo}
use Rattle.kin_check.proofs.state.State.motions_at.Given as goal

abbrev pub invariant-loop-no : goal.invariant-loop-no
invariant-loop-no l = AreUpTo l.self-inside.plans.items l.moment l.no l.motions
