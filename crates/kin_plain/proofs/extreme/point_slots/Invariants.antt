use Rattle.std.proofs.Common.{◌≡◌, ◌++◌, ◌-◌, ◌^◌, map}
use Rattle.kin_motion.specs.Extremes.{slot_of_point, point_slots}
use Rattle.kin_motion.specs.Numbers.{numbers_from}
use Rattle.kin_plain.proofs.extreme.point_slots.Given as goal

abbrev pub invariant-loop-no : goal.invariant-loop-no
invariant-loop-no l = l.slots.items ++ map (slot_of_point l.live) (numbers_from l.no (2 ^ l.size - l.no)) ≡ point_slots l.size l.live
