use Rattle.std.proofs.Common.{◌≡◌, ◌++◌, drop}
use Rattle.kin_overlay.proofs.edit.append_few.Given as goal

abbrev pub invariant-loop-no : goal.invariant-loop-no
invariant-loop-no l = l.list.items ++ drop l.no-index l.numbers ≡ l.initial.list.items ++ l.numbers
