use Rattle.kin_check.proofs.Coming.{IsLooking, legs_left}
use Rattle.kin_check.proofs.block.next_block.Given as goal

abbrev pub invariant-loop-event : goal.invariant-loop-event
invariant-loop-event g l = IsLooking l.state l.from l.last l.facts.items l.event

abbrev pub decreases-loop-event : goal.decreases-loop-event
decreases-loop-event g l = legs_left l.event
