use Rattle.std.proofs.Common.{◌≡◌, length}
use Rattle.kin_cases.proofs.written.motions.Given as goal

-- each number has a slot
abbrev pub invariant-loop-no : goal.invariant-loop-no
invariant-loop-no l = length l.motions ≡ 8
