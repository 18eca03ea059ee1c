use Rattle.std.proofs.Common.{sym}
use Rattle.kin_wedge.specs.Seen.{reading_seen}
use Rattle.kin_wedge.proofs.Touching.{left_in_both, touched_through}
use Rattle.kin_wedge.proofs.touch.Touches.leave_both.Goals as goal

pub returns-clause-left : goal.returns-clause-left
returns-clause-left c =
    left_in_both c.args.table.now c.leave.new.self.all.items c.leave-2.new.self.all.items (reading_seen c.args.reading) c.args.apex c.args.no c.bounded_by-first.result.0 c.bounded_by-first.result.1 (sym c.bounded_by-first.ensures.first) (sym c.bounded_by-first.ensures.second)
    c.in_ok-leave-2.ensures.touched c.in_ok-leave.ensures.offered c.in_ok-leave-2.ensures.offered

pub returns-clause-touched : goal.returns-clause-touched
returns-clause-touched c = touched_through c.args.table.now _ _ _ c.in_ok-leave.ensures.touched c.in_ok-leave-2.ensures.touched
