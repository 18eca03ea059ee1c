use Rattle.kin_nearest.proofs.Leaving.{nearing_left}
use Rattle.kin_nearest.proofs.kept.KinNearestKept.mark_leaving.Goals as goal

pub returns-clause-members : goal.returns-clause-members
returns-clause-members c = λ before after has left. nearing_left c.args.no c.args.self.now c.remove.new.self before after c.requires.rest c.remove.ensures has left
