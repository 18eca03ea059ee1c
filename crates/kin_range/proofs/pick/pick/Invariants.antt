use Rattle.std.proofs.Common.{◌≡◌, ◌++◌, ℕ, Bool, filter, drop}
use Rattle.kin_range.specs.Sides.{IsSpanOf}
use Rattle.kin_range.proofs.pick.pick.Given as goal

abbrev pub invariant-loop-no : goal.invariant-loop-no
invariant-loop-no l = (test : ℕ → Bool) → IsSpanOf test l.list.items l.span → l.picked.items ++ filter test (drop l.no-index l.numbers) ≡ filter test l.numbers
