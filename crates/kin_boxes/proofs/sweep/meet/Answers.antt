use Rattle.kin_boxes.proofs.Finding.{item_there}
use Rattle.kin_boxes.proofs.sweep.meet.Goals as goal

pub meets_other-requires-clause-there : goal.meets_other-requires-clause-there
meets_other-requires-clause-there c = c.requires.open_there _ (item_there c.args.opened.now c.loop-other.other-index 0 c.loop-other-test.true)
