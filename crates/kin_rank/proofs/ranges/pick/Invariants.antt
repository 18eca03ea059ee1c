use Rattle.std.proofs.Common.{◌≡◌, ◌++◌, filter, drop}
use Rattle.kin_rank.specs.Finding.{is_within}
use Rattle.kin_rank.proofs.ranges.pick.Given as goal

abbrev pub invariant-loop-no : goal.invariant-loop-no
invariant-loop-no l = l.picked.items ++ filter (is_within l.places l.range) (drop l.no-index l.numbers) ≡ filter (is_within l.places l.range) l.numbers
