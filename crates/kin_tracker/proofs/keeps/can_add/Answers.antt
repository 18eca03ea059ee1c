use Rattle.std.proofs.Common.{sym, ◌∙◌}
use Rattle.kin_tracker.proofs.OneMoreKept.{one_more, last_is_small}
use Rattle.kin_tracker.proofs.keeps.can_add.Goals as goal

pub returns-then-is_small-clause-yes : goal.returns-then-is_small-clause-yes
returns-then-is_small-clause-yes c = λ may. one_more c.args.keeps.now c.args.keep.now c.requires (c.is_small.ensures.yes c.if-is_small.true) (sym c.may_keep_more.ensures ∙ may)

pub returns-else-is_small-clause-no : goal.returns-else-is_small-clause-no
returns-else-is_small-clause-no c = λ large all. c.is_small.ensures.no large (last_is_small c.args.keeps.now c.args.keep.now all)
