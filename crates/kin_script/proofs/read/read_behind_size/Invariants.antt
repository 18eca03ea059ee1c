use Rattle.std.proofs.Common.{◌≡◌, length, [], None}
use Rattle.kin_script.specs.Left.{with_words}
use Rattle.kin_script.specs.Grammar.{behind_size}
use Rattle.kin_script.specs.Reading.{reads, IsDraftInRange}
use Rattle.kin_script.proofs.read.read_behind_size.Given as goal

abbrev pub invariant-loop-line : goal.invariant-loop-line
invariant-loop-line l = record {
  rest : reads l.draft (with_words l.lines) ≡ behind_size (record { size = l.size; keeps = []; journal = None }) (with_words l.fn.lines);
  range : IsDraftInRange l.draft;
}

abbrev pub decreases-loop-line : goal.decreases-loop-line
decreases-loop-line l = length (with_words l.lines)
