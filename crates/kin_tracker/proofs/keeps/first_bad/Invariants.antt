use Rattle.std.proofs.Common.{take}
use Rattle.kin_world.specs.Worlds.{AreKeepable}
use Rattle.kin_tracker.proofs.keeps.first_bad.Given as goal

abbrev pub invariant-loop-place : goal.invariant-loop-place
invariant-loop-place l = record { before : AreKeepable (take l.place l.keeps) }
