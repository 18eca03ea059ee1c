use Rattle.std.proofs.Common.{◌≡◌, ◌++◌, ◌<◌, length}
use Rattle.kin_overlay.specs.declared.standing.Standing.{Standing}
use Rattle.kin_overlay.specs.Seen.{half_of}
use Rattle.kin_overlay.specs.Sketching.{IsDrawn, put_blanks, after_put}
use Rattle.kin_overlay.proofs.sketch.draw_each_put.Given as goal

abbrev pub invariant-loop-left : goal.invariant-loop-left
invariant-loop-left l = record {
  drawn : (w : Standing) → IsDrawn w (half_of l.half) l.chain l.left l.initial.out.items l.out.items;
  some : 0 < length l.left;
  rest : after_put l.put l.left ≡ after_put l.put l.chain;
  pushed : l.out.items ++ put_blanks l.half l.put l.left ≡ l.initial.out.items ++ put_blanks l.half l.put l.chain;
}

abbrev pub decreases-loop-left : goal.decreases-loop-left
decreases-loop-left l = length l.left
