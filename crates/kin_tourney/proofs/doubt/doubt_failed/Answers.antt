use Rattle.kin_tourney.proofs.Doubts.{doubted_none, doubted_on}
use Rattle.kin_tourney.proofs.doubt.doubt_failed.Goals as goal

pub loop-placed-init : goal.loop-placed-init
loop-placed-init c = record { closed = c.requires.closed; doubted = doubted_none c.args.doubts.now c.args.failed.now }

pub loop-placed-preserved : goal.loop-placed-preserved
loop-placed-preserved c =
    let next = doubted_on c.args.doubts.now c.loop-placed.doubts c.doubt_path.new.doubts c.args.failed.now c.loop-placed.placed-index _ c.loop-placed-test.true c.loop-placed.invariant.doubted (c.requires.inner c.loop-placed.placed-index _ c.loop-placed-test.true) c.doubt_path.ensures.closed c.doubt_path.ensures.spread in
    record { closed = next.0; doubted = next.1 }
