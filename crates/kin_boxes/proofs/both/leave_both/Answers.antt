use Rattle.kin_boxes.proofs.Leaving.{x_high, y_high, y_unmarked}
use Rattle.kin_boxes.proofs.both.leave_both.Goals as goal

pub leave-requires-clause-high : goal.leave-requires-clause-high
leave-requires-clause-high c = x_high c.args.leaving c.args.by_x.now c.args.by_y.now c.requires c.in-Some.no c.in-Some.is

pub leave-requires-in-Some-clause-rest : goal.leave-requires-in-Some-clause-rest
leave-requires-in-Some-clause-rest c = y_unmarked c.args.leaving c.args.by_x.now c.args.by_y.now c.requires c.in-Some.no c.in-Some.is

pub leave-requires-in-Some-clause-high : goal.leave-requires-in-Some-clause-high
leave-requires-in-Some-clause-high c = y_high c.args.leaving c.args.by_x.now c.args.by_y.now c.requires c.in-Some.no c.in-Some.is
