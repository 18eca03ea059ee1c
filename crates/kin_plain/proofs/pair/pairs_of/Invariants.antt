use Rattle.std.proofs.Common.{◌≡◌, ◌++◌, drop}
use Rattle.kin_motion.specs.ClosestPairs.{pairs_of}
use Rattle.kin_plain.proofs.pair.pairs_of.Given as goal

abbrev pub invariant-loop-place : goal.invariant-loop-place
invariant-loop-place l = l.pairs.items ++ pairs_of (drop l.place l.list) ≡ pairs_of l.list
