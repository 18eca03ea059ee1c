use Rattle.std.proofs.Common.{rules}
use Rattle.kin_motion.proofs.PolyLaws.{handed_small}
use Rattle.kin_motion.proofs.poly.step_between.Goals as goal

pub way-requires-clause-from_small : goal.way-requires-clause-from_small
way-requires-clause-from_small c = handed_small c.u.result c.u.ensures.small

pub way-requires-clause-to_small : goal.way-requires-clause-to_small
way-requires-clause-to_small c = handed_small c.u-2.result c.u-2.ensures.small

pub way-requires-2-clause-from_small : goal.way-requires-2-clause-from_small
way-requires-2-clause-from_small c = handed_small c.x.result c.x.ensures.small

pub way-requires-2-clause-to_small : goal.way-requires-2-clause-to_small
way-requires-2-clause-to_small c = handed_small c.x-2.result c.x-2.ensures.small

pub way-requires-3-clause-from_small : goal.way-requires-3-clause-from_small
way-requires-3-clause-from_small c = handed_small c.v.result c.v.ensures.small

pub way-requires-3-clause-to_small : goal.way-requires-3-clause-to_small
way-requires-3-clause-to_small c = handed_small c.v-2.result c.v-2.ensures.small

pub way-requires-4-clause-from_small : goal.way-requires-4-clause-from_small
way-requires-4-clause-from_small c = handed_small c.y.result c.y.ensures.small

pub way-requires-4-clause-to_small : goal.way-requires-4-clause-to_small
way-requires-4-clause-to_small c = handed_small c.y-2.result c.y-2.ensures.small

pub returns-clause-x : goal.returns-clause-x
returns-clause-x c = search rules

pub returns-clause-y : goal.returns-clause-y
returns-clause-y c = search rules

pub returns-clause-x_short : goal.returns-clause-x_short
returns-clause-x_short c = search rules

pub returns-clause-y_short : goal.returns-clause-y_short
returns-clause-y_short c = search rules
