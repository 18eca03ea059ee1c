use Rattle.std.proofs.Common.{◌≡◌, ◌++◌, ◌<◌, length}
use Rattle.kin_overlay.specs.declared.standing.Standing.{Standing}
use Rattle.kin_overlay.specs.Seen.{half_of}
use Rattle.kin_overlay.specs.Sketching.{IsDrawn, blanks}
use Rattle.kin_overlay.proofs.sketch.draw_all.Given as goal

abbrev pub invariant-loop-left : goal.invariant-loop-left
invariant-loop-left l = record {
  drawn : (w : Standing) → IsDrawn w (half_of l.half) l.chain l.left l.initial.out.items l.out.items;
  some : 0 < length l.left;
  pushed : l.out.items ++ blanks l.half l.left ≡ l.initial.out.items ++ blanks l.half l.chain;
}

abbrev pub decreases-loop-left : goal.decreases-loop-left
decreases-loop-left l = length l.left
