use Rattle.std.proofs.Common.{◌≡◌, ◌++◌, take, flat_map}
use Rattle.kin_status.proofs.Passing.{line_in}
use Rattle.kin_status.proofs.journal.put_block.Given as goal

abbrev pub invariant-loop-failure : goal.invariant-loop-failure
invariant-loop-failure l = l.out.items ≡ l.fn.out.items ++ flat_map (line_in l.block-inside.moment) (take l.failure-index l.failure-items)
