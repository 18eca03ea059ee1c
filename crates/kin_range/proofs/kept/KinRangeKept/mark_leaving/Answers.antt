use Rattle.kin_list.specs.declared.mark.Mark.TheVariants.{Leaves}
use Rattle.kin_range.proofs.Settling.{range_left, range_follows}
use Rattle.kin_range.proofs.kept.KinRangeKept.mark_leaving.Goals as goal

pub returns-clause-members : goal.returns-clause-members
returns-clause-members c = λ before after has left. range_left c.args.no c.args.self.now c.remove.new.self before after c.requires.rest c.remove.ensures has left

pub returns-clause-follows : goal.returns-clause-follows
returns-clause-follows c = λ s after members settled left. range_follows (Leaves c.args.no) c.args.self.now c.remove.new.self s after c.remove.ensures settled left
