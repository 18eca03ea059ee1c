use Rattle.kin_list.specs.declared.mark.Mark.TheVariants.{Leaves}
use Rattle.kin_closest.proofs.Following.{follows_marked}
use Rattle.kin_closest.proofs.Leaving.{closing_left}
use Rattle.kin_closest.proofs.kept.KinClosestKept.mark_leaving.Goals as goal

pub returns-clause-members : goal.returns-clause-members
returns-clause-members c = λ before after has left. closing_left c.args.no c.args.self.now c.remove.new.self before after c.requires.rest c.remove.ensures has left

pub returns-clause-follows : goal.returns-clause-follows
returns-clause-follows c = λ s after members settled left. follows_marked (Leaves c.args.no) c.args.self.now c.remove.new.self s after c.remove.ensures settled left
