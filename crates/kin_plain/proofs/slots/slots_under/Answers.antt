use Rattle.std.proofs.Common.{arith}
use Rattle.kin_plain.proofs.UnderRanges.{level_in, node_slots, node_slots_end}
use Rattle.kin_plain.proofs.slots.slots_under.Goals as goal

pub overflow_sub-size : goal.overflow_sub-size
overflow_sub-size c = level_in c.args.size c.ilog2-level.result c.args.node c.ilog2-level.ensures.power_le c.requires.within

pub numbers_below-requires : goal.numbers_below-requires
numbers_below-requires c =
    let deep = level_in c.args.size c.ilog2-level.result c.args.node c.ilog2-level.ensures.power_le c.requires.within in
    let most = c.requires.size in
    omega (arith, deep, most)

pub returns-clause-under : goal.returns-clause-under
returns-clause-under c =
    node_slots c.args.size c.ilog2-level.result c.args.node c.numbers_below.result c.numbers_below-width.result c.ilog2-level.ensures.power_le c.ilog2-level.ensures.next_power_gt c.requires.within
    c.numbers_below.ensures c.numbers_below-width.ensures

pub returns-clause-end : goal.returns-clause-end
returns-clause-end c =
    node_slots_end c.args.size c.ilog2-level.result c.args.node c.numbers_below.result c.numbers_below-width.result c.ilog2-level.ensures.power_le c.ilog2-level.ensures.next_power_gt c.requires.within
    c.numbers_below.ensures c.numbers_below-width.ensures
