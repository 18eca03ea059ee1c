use Rattle.std.proofs.Common.{◌≡◌, drop}
use Rattle.kin_check.specs.Claims.{IsTextFrom}
use Rattle.kin_check.specs.Sound.{IsSound}
use Rattle.kin_check.proofs.replay.is_text_from.Given as goal

abbrev pub invariant-loop-line : goal.invariant-loop-line
invariant-loop-line g l = record {
  sound : IsSound l.state;
  size : l.state.size ≡ l.fn.state.size;
  forth : IsTextFrom l.state (drop l.line-index l.lines) l.claim → IsTextFrom l.fn.state l.lines l.fn.claim;
  back : IsTextFrom l.fn.state l.lines l.fn.claim → IsTextFrom l.state (drop l.line-index l.lines) l.claim;
}
