use Rattle.kin_overlay.proofs.StandingLaws.{none-yet}
use Rattle.kin_overlay.proofs.standing.has_failed.Goals as goal

pub loop-placed-preserved : goal.loop-placed-preserved
loop-placed-preserved c = none-yet c.args.failed.now c.args.fact c.loop-placed.placed-index _ c.is.result c.if-is.false c.is.ensures c.loop-placed.invariant
