use Rattle.std.proofs.Common.{◌≡◌, ◌≤◌, take}
use Rattle.kin_motion.specs.Keeps.{count_of}
use Rattle.kin_motion.proofs.keep.count_of.Given as goal

abbrev pub invariant-loop-keep : goal.invariant-loop-keep
invariant-loop-keep l = record {
  counted : l.count ≡ count_of l.of (take l.keep-index l.keeps);
  within : l.count ≤ l.keep-index;
}
