use Rattle.kin_tourney.proofs.EnterPoints.{point_low, points_entered}
use Rattle.kin_tourney.proofs.FollowingPoints.{follows_entered}
use Rattle.kin_tourney.proofs.points.TourneyAlongKept.mark_entering.Goals as goal

pub returns-clause-members : goal.returns-clause-members
returns-clause-members c = λ before after has entered. points_entered c.args.no c.args.self.now c.set.new.self before after (point_low c.args.self.now c.args.no c.requires.room) c.set.ensures has entered

pub returns-clause-follows : goal.returns-clause-follows
returns-clause-follows c = λ s after has settled entered. follows_entered c.args.no c.args.self.now c.set.new.self s after (point_low c.args.self.now c.args.no c.requires.room) c.requires.rest has settled c.set.ensures entered
