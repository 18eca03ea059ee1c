use Rattle.std.proofs.Common.{◌≡◌, ◌++◌, drop}
use Rattle.kin_boxes.specs.Sweeps.{meets, met}
use Rattle.kin_boxes.proofs.sweep.meet.Given as goal

abbrev pub invariant-loop-other : goal.invariant-loop-other
invariant-loop-other l = l.pairs.items ++ met (meets l.by_y.items) l.no (drop l.other-index l.opened) ≡ l.fn.pairs.items ++ met (meets l.by_y.items) l.no l.opened
