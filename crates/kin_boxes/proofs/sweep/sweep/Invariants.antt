use Rattle.std.proofs.Common.{◌≡◌, ◌++◌, [], true, drop, ℕ}
use Rattle.kin_motion.specs.Numbers.{is_in}
use Rattle.kin_boxes.specs.Sweeps.{meets, HasBox}
use Rattle.kin_boxes.proofs.Sweeping.{swept}
use Rattle.kin_boxes.proofs.sweep.sweep.Given as goal

abbrev pub invariant-loop-slot : goal.invariant-loop-slot
invariant-loop-slot l =
    (l.pairs.items ++ swept (meets l.by_y.items) l.opened.items (drop l.slot-index l.by_x.items) ≡ swept (meets l.by_y.items) [] l.by_x.items) × ((i : ℕ) → is_in i l.opened.items ≡ true → HasBox l.by_y i)
