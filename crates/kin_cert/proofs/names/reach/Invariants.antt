use Rattle.std.proofs.Common.{◌≡◌, ◌+◌, ◌-◌}
use Rattle.kin_cert.proofs.names.reach.Given as goal

abbrev pub invariant-numbers : goal.invariant-numbers
invariant-numbers l = l.pointers.targets ≡ l.fn.pointers.targets

abbrev pub decreases-numbers : goal.decreases-numbers
decreases-numbers l = l.number + 1 - l.pointers.numbers
