use Rattle.std.proofs.Common.{ap, ◌∙◌}
use Rattle.kin_sorted.specs.Marks.{marked}
use Rattle.kin_motion.specs.Numbers.{is_in}
use Rattle.kin_boxes.proofs.Marking.{low_slot, high_slot, none_marked, high_leaves, both_left}
use Rattle.kin_boxes.proofs.axis.leave.Goals as goal

pub remove-requires-clause-member : goal.remove-requires-clause-member
remove-requires-clause-member c = ap (λ n. is_in n (marked c.args.ends.now.marks c.args.ends.now.items)) (low_slot c.low.result c.args.no c.low.ensures)
    ∙ none_marked c.args.ends.now.marks c.args.ends.now.items _ c.requires.rest ∙ c.requires.low

pub remove-requires-2-clause-member : goal.remove-requires-2-clause-member
remove-requires-2-clause-member c = high_leaves c.args.no _ c.args.ends.now c.remove.new.self (low_slot c.low.result c.args.no c.low.ensures) c.requires.rest _
    (high_slot c.high.result c.args.no c.high.ensures) c.in_ok-remove.ensures.ok c.requires.high

pub returns-clause-ok : goal.returns-clause-ok
returns-clause-ok c = both_left c.args.no _ c.args.ends.now c.remove.new.self (low_slot c.low.result c.args.no c.low.ensures) c.requires.rest _
    (high_slot c.high.result c.args.no c.high.ensures) c.remove-2.new.self c.in_ok-remove.ensures.ok c.in_ok-remove-2.ensures.ok
