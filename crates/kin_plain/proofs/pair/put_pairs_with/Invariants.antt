use Rattle.std.proofs.Common.{◌≡◌, ◌++◌, drop}
use Rattle.kin_motion.specs.ClosestPairs.{pairs_with}
use Rattle.kin_plain.proofs.pair.put_pairs_with.Given as goal

abbrev pub invariant-loop-j : goal.invariant-loop-j
invariant-loop-j l = l.pairs.items ++ pairs_with l.i (drop l.j-index l.after) ≡ l.fn.pairs.items ++ pairs_with l.i l.after
