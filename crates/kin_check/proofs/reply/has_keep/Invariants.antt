use Rattle.std.proofs.Common.{take}
use Rattle.std.specs.Prelude.{Contains}
use Rattle.kin_check.proofs.reply.has_keep.Given as goal

abbrev pub invariant-loop-keep : goal.invariant-loop-keep
invariant-loop-keep l = ¬ (Contains (take l.keep-index l.keeps) l.kind)
