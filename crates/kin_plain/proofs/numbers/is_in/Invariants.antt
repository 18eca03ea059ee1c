use Rattle.std.proofs.Common.{◌≡◌, drop}
use Rattle.kin_motion.specs.Numbers.{is_in}
use Rattle.kin_plain.proofs.numbers.is_in.Given as goal

abbrev pub invariant-loop-other : goal.invariant-loop-other
invariant-loop-other l = is_in l.no l.list ≡ is_in l.no (drop l.other-index l.list)
