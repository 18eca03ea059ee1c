use Rattle.kin_tourney.proofs.Settled.{covers_failing}
use Rattle.kin_tourney.proofs.points.TourneyAlongSteady.settle_steadily.Goals as goal

pub settle-requires-clause-failing : goal.settle-requires-clause-failing
settle-requires-clause-failing g c = covers_failing _ _ _ _ c.requires.failing
