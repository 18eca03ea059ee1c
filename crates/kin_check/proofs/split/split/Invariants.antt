use Rattle.kin_check.proofs.Splitting.{NoneBefore}
use Rattle.kin_check.proofs.split.split.Given as goal

abbrev pub invariant-loop-at : goal.invariant-loop-at
invariant-loop-at l = NoneBefore l.input l.at
