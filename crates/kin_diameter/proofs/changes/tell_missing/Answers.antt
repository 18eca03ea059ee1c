use Rattle.kin_diameter.proofs.ListChanges.{told_more}
use Rattle.kin_diameter.proofs.changes.tell_missing.Goals as goal

pub loop-slope-preserved : goal.loop-slope-preserved
loop-slope-preserved c =
    told_more c.args.slopes.now c.args.others.now c.requires.once c.loop-slope.slope-index _ c.args.told.now.items c.loop-slope.told.items c.tell.new.told.items c.loop-slope-test.true
    c.loop-slope.invariant c.in_ok-tell.ensures
