use Rattle.std.proofs.Common.{take}
use Rattle.kin_motion.specs.Kinetics.{HasGained}
use Rattle.kin_diameter.specs.Changes.{IsLost}
use Rattle.kin_diameter.proofs.changes.tell_missing.Given as goal

abbrev pub invariant-loop-slope : goal.invariant-loop-slope
invariant-loop-slope l = HasGained l.fn.told.items l.told.items (IsLost (take l.slope-index l.slopes) l.others)
