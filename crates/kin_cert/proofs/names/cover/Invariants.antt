use Rattle.std.proofs.Common.{◌≡◌, ℕ, ◌+◌, ◌-◌, length}
use Rattle.kin_cert.specs.Names.{target_of}
use Rattle.kin_cert.proofs.names.cover.Given as goal

abbrev pub invariant-slots : goal.invariant-slots
invariant-slots l = (s : ℕ) → target_of l.pointers s ≡ target_of l.fn.pointers s

abbrev pub decreases-slots : goal.decreases-slots
decreases-slots l = l.slot + 1 - length l.pointers.targets
