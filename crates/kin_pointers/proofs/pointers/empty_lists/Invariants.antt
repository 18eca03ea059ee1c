use Rattle.std.proofs.Common.{◌≡◌, [], List, ℕ, replicate}
use Rattle.kin_pointers.specs.Pointing.{lists_of}
use Rattle.kin_pointers.proofs.pointers.empty_lists.Given as goal

abbrev pub invariant-loop-number : goal.invariant-loop-number
invariant-loop-number l = lists_of l.lists.items ≡ replicate {A = List ℕ} l.number []
