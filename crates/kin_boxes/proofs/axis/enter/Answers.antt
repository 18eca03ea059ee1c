use Rattle.std.proofs.Common.{ap, ◌∙◌}
use Rattle.kin_sorted.specs.Marks.{marked}
use Rattle.kin_motion.specs.Numbers.{is_in}
use Rattle.kin_boxes.proofs.Marking.{low_slot, high_slot, none_marked, high_enters, both_entered}
use Rattle.kin_boxes.proofs.axis.enter.Goals as goal

pub insert-requires-clause-new : goal.insert-requires-clause-new
insert-requires-clause-new c = ap (λ n. is_in n (marked c.args.ends.now.marks c.args.ends.now.items)) (low_slot c.low.result c.args.no c.low.ensures)
    ∙ none_marked c.args.ends.now.marks c.args.ends.now.items _ c.requires.rest ∙ c.requires.low

pub insert-requires-2-clause-new : goal.insert-requires-2-clause-new
insert-requires-2-clause-new c = high_enters c.args.no _ c.args.ends.now c.insert.new.self (low_slot c.low.result c.args.no c.low.ensures) c.requires.rest _
    (high_slot c.high.result c.args.no c.high.ensures) c.in_ok-insert.ensures.ok c.requires.high

pub returns : goal.returns
returns c = both_entered c.args.no _ c.args.ends.now c.insert.new.self (low_slot c.low.result c.args.no c.low.ensures) c.requires.rest _
    (high_slot c.high.result c.args.no c.high.ensures) c.insert-2.new.self c.in_ok-insert.ensures.ok c.in_ok-insert-2.ensures.ok
