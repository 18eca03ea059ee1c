use Rattle.kin_pairs.proofs.Moving.{AreMoved}
use Rattle.kin_pairs.proofs.sorting.move_from.Given as goal

abbrev pub invariant-loop-k : goal.invariant-loop-k
invariant-loop-k l = AreMoved l.parts l.from l.fn.facts.items l.facts.items l.k
