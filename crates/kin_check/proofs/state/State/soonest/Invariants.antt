use Rattle.std.proofs.Common.{take}
use Rattle.kin_check.specs.Beginnings.{IsSoonest, all_legs}
use Rattle.kin_check.proofs.state.State.soonest.Given as goal

abbrev pub invariant-loop-plan : goal.invariant-loop-plan
invariant-loop-plan l = IsSoonest l.moment (all_legs (take l.plan-index l.plan-items)) l.soonest
