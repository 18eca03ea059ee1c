use Rattle.std.proofs.Common.{◌≡◌, ◌≤◌, length, take, true}
use Rattle.kin_motion.specs.Keeps.{may_keep}
use Rattle.kin_motion.proofs.keep.may_keep.Given as goal

abbrev pub invariant-loop-place : goal.invariant-loop-place
invariant-loop-place l = record {
  within : l.place ≤ length l.keeps;
  before : may_keep (take l.place l.keeps) ≡ true;
}
