use Rattle.std.proofs.Common.{take}
use Rattle.kin_c.specs.Keeps.{AreKeeps}
use Rattle.kin_c.proofs.keep.read_keeps.Given as goal

-- those before the place are read
abbrev pub invariant-loop-place : goal.invariant-loop-place
invariant-loop-place l = record { read : AreKeeps (take l.place l.given) l.keeps.items }
