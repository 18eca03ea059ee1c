use Rattle.std.proofs.Common.{◌≡◌, drop}
use Rattle.kin_script.specs.Lines.{pieces_of}
use Rattle.kin_script.proofs.words.skip_blanks.Given as goal

abbrev pub invariant-loop-at : goal.invariant-loop-at
invariant-loop-at l = pieces_of l.bytes ≡ pieces_of (drop l.at l.bytes)
