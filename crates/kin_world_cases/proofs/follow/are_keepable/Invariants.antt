use Rattle.std.proofs.Common.{◌≡◌, ◌<◌, ℕ, Some, slice_get}
use Rattle.kin_motion.specs.declared.keep.Keep.{Keep}
use Rattle.kin_motion.specs.Live.{IsSmallKeep}
use Rattle.kin_world_cases.proofs.follow.are_keepable.Given as goal

abbrev pub invariant-loop-keep : goal.invariant-loop-keep
invariant-loop-keep l = record {
  small : (j : ℕ) (keep : Keep) → j < l.keep-index → slice_get l.keeps j ≡ Some keep → IsSmallKeep keep;
}
