use Rattle.std.proofs.Common.{sym, ap, ◌∙◌, ℕ}
use Rattle.kin_tourney.specs.declared.along.Along.{Along}
use Rattle.kin_tourney.specs.Tournament.{Tournament, is_above_mark}
use Rattle.kin_tourney.proofs.EnterPoints.{point_low, points_left}
use Rattle.kin_tourney.proofs.FollowingPoints.{follows_left}
use Rattle.kin_tourney.proofs.LeavingPoints.{spares_named}
use Rattle.kin_tourney.proofs.points.TourneyAlongKept.mark_leaving.Goals as goal

pub returns-clause-members : goal.returns-clause-members
returns-clause-members c = λ before after has left. points_left c.args.no c.args.self.now c.clear.new.self before after c.clear.ensures has left

pub returns-clause-spares : goal.returns-clause-spares
returns-clause-spares c = λ p there free.
    let member = c.requires.member in
    spares_named c.args.no c.args.self.now member.0 member.1 member.2 (point_low c.args.self.now c.args.no c.requires.room) p there
    (sym (ap (λ (t : Tournament Along ℕ). is_above_mark t.size t.marked p.part) c.clear.ensures) ∙ free)

pub returns-clause-follows : goal.returns-clause-follows
returns-clause-follows c = λ s after has settled left. follows_left c.args.no c.args.self.now c.clear.new.self s after (point_low c.args.self.now c.args.no c.requires.room) c.requires.rest has settled c.clear.ensures left
