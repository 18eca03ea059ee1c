use Rattle.std.proofs.Common.{◌≡◌, ◌≤◌, ◌+◌, ◌^◌, length}
use Rattle.kin_script.specs.Lines.{lines_of}
use Rattle.kin_script.specs.Left.{numbered, with_words, after}
use Rattle.kin_script.proofs.lines.Lines.next.Given as goal

abbrev pub invariant-loop-line : goal.invariant-loop-line
invariant-loop-line l = record {
  room : l.self-inside.number + length l.self-inside.rest.now ≤ 2 ^ 21;
  same : numbered l.self-inside.number (lines_of l.self-inside.rest.now) ≡ with_words l.fn.self;
  count : l.self-inside.number + length (lines_of l.self-inside.rest.now) ≡ after l.fn.self;
}

abbrev pub decreases-loop-line : goal.decreases-loop-line
decreases-loop-line l = length l.self-inside.rest.now
