use Rattle.std.proofs.Common.{sym, subst}
use Rattle.kin_motion.specs.Extremes.{IsExtremePoint}
use Rattle.kin_motion.proofs.UnderNodes.{root_low}
use Rattle.kin_tourney.proofs.ExtremePoints.{extreme_point}
use Rattle.kin_tourney.proofs.points.Tourney+Along.extreme.Goals as goal

pub winner-requires-clause-high : goal.winner-requires-clause-high
winner-requires-clause-high c = root_low c.args.self.now.size

pub returns : goal.returns
returns c = λ s real fits has settled.
    let t = c.args.self.now in
    subst (IsExtremePoint s t.key.dx t.key.dy) (sym c.winner.ensures.winner) (extreme_point t s real fits has settled)
