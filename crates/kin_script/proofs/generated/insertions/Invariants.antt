use Rattle.std.proofs.Common.{◌≡◌, ◌*◌}
use Rattle.kin_script.specs.Generated.{insertions, state_after}
use Rattle.kin_script.proofs.generated.insertions.Given as goal

abbrev pub invariant-loop-no : goal.invariant-loop-no
invariant-loop-no l = record {
  lines : l.lines ≡ insertions l.seed l.no;
  draws : l.draws.state ≡ state_after (4 * l.no) l.seed;
}
