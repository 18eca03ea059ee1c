-- The slots of the ends of boxes.
use Rattle.std.specs.Prelude.{ℕ, ◌+◌, ◌*◌}
use Rattle.kin_sorted.specs.declared.ends.End.{End}
use Rattle.kin_sorted.specs.declared.ends.Side.{Side}
use Rattle.kin_sorted.specs.declared.ends.Side.TheVariants.{Low, High}

-- 0 for a low end, 1 for a high one
abbrev pub kind_of : Side → ℕ
kind_of Low = 0
kind_of High = 1

-- the slot of an end: the boxes' ends in turn, each time the low end first
abbrev pub end_slot : End → ℕ
end_slot e = 2 * e.point + kind_of e.side
