use Rattle.std.proofs.Common.{◌≡◌}
use Rattle.kin_part_cases.proofs.legs.legs_come_by_instant_and_number.Given as goal

abbrev pub invariant-loop-step : goal.invariant-loop-step
invariant-loop-step g l = l.legs.size ≡ 2
