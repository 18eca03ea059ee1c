use Rattle.std.proofs.Common.{◌≡◌, ◌++◌, drop, ℕ, not, nat_eq}
use Rattle.std.specs.Prelude.{filter}
use Rattle.kin_plain.proofs.nearest.others_of.Given as goal

abbrev pub invariant-loop-other : goal.invariant-loop-other
invariant-loop-other l = l.others.items ++ filter (λ (j : ℕ). not (nat_eq j l.no)) (drop l.other-index l.list) ≡ filter (λ (j : ℕ). not (nat_eq j l.no)) l.list
