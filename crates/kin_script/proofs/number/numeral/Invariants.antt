use Rattle.std.proofs.Common.{◌≡◌, ◌≤◌, drop}
use Rattle.kin_script.specs.Numbers.{digits_after, numeral_of, up_to}
use Rattle.kin_script.proofs.number.numeral.Given as goal

abbrev pub invariant-loop-d : goal.invariant-loop-d
invariant-loop-d l = record {
  small : l.value ≤ l.most;
  rest : up_to l.most (digits_after l.value (drop l.d-index l.word)) ≡ up_to l.most (numeral_of l.word);
}
