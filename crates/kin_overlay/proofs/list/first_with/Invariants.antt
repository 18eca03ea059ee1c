use Rattle.std.proofs.Common.{◌≡◌, drop}
use Rattle.kin_motion.specs.Numbers.{is_in}
use Rattle.kin_overlay.specs.Remembered.{left_points}
use Rattle.kin_overlay.proofs.list.first_with.Given as goal

abbrev pub invariant-loop-record : goal.invariant-loop-record
invariant-loop-record l = is_in l.left (left_points (drop l.record-index l.records)) ≡ is_in l.left (left_points l.records)
