use Rattle.std.proofs.Common.{ℕ, take}
use Rattle.std.specs.List.{All}
use Rattle.kin_motion.specs.Numbers.{IsIn}
use Rattle.kin_cases.proofs.chains.is_part.Given as goal

abbrev pub invariant-loop-no : goal.invariant-loop-no
invariant-loop-no l = All (λ (i : ℕ). IsIn i l.set) (take l.no-index l.list)
