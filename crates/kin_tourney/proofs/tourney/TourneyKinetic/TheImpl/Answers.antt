use Rattle.kin_tourney.proofs.Settled.{covers_failing}
use Rattle.kin_tourney.proofs.tourney.TourneyKinetic.TheImpl.Goals as goal

pub settle-asks : goal.settle-asks
settle-asks g c = record { real = c.requires.real; ready = c.requires.ready; failing = covers_failing _ _ _ _ c.requires.failing }
