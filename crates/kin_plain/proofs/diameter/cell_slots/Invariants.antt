use Rattle.std.proofs.Common.{◌≡◌, ◌++◌, ◌+◌, ◌-◌, ◌^◌, map, ℕ}
use Rattle.kin_motion.specs.Numbers.{numbers_from}
use Rattle.kin_motion.specs.Sweeps.{cell_in, cell_slots}
use Rattle.kin_plain.proofs.diameter.cell_slots.Given as goal

abbrev pub invariant-loop-slot : goal.invariant-loop-slot
invariant-loop-slot l = l.slots.items ++ map (λ (slot : ℕ). cell_in slot l.cells) (numbers_from l.slot (2 ^ (l.size + 1) - l.slot)) ≡ cell_slots l.size l.cells
