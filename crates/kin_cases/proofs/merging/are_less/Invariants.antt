use Rattle.std.proofs.Common.{ℕ, ◌<◌, take}
use Rattle.std.specs.List.{All}
use Rattle.kin_cases.proofs.merging.are_less.Given as goal

abbrev pub invariant-loop-no : goal.invariant-loop-no
invariant-loop-no l = All (λ (i : ℕ). All (λ (j : ℕ). i < j) l.b) (take l.no-index l.a)
