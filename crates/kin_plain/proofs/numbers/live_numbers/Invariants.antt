use Rattle.std.proofs.Common.{◌≡◌, ◌++◌, drop}
use Rattle.kin_motion.specs.Course.{live_of}
use Rattle.kin_motion.specs.Numbers.{filled_from}
use Rattle.kin_plain.proofs.numbers.live_numbers.Given as goal

abbrev pub invariant-loop-no : goal.invariant-loop-no
invariant-loop-no l = l.numbers.items ++ filled_from l.no (drop l.no l.motions) ≡ live_of l.motions
