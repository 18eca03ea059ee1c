use Rattle.std.proofs.Common.{◌≡◌, ℕ, List, ◌++◌, ◌+◌, map, length}
use Rattle.kin_motion.specs.Edits.{Edit, all_edited, AreFitting}
use Rattle.kin_overlay.specs.Diffs.{KeepOrder, later}
use Rattle.kin_overlay.proofs.ApartLaws.{IsApart}
use Rattle.kin_overlay.proofs.diff.diff_middle.Given as goal

abbrev pub invariant-loop-old : goal.invariant-loop-old
invariant-loop-old l = record {
  plain : List Edit;
  shifted : l.edits.items ≡ map (later l.start) plain;
  front : List ℕ;
  counted : length front ≡ l.place;
  led : all_edited plain l.fn.old ≡ front ++ l.old;
  to : front ++ l.new ≡ l.fn.new;
  fit : AreFitting plain l.fn.old;
  apart : KeepOrder l.fn.old l.fn.new → IsApart plain l.fn.old l.old l.new;
}

abbrev pub decreases-loop-old : goal.decreases-loop-old
decreases-loop-old l = length l.old + length l.new
