use Rattle.std.proofs.Common.{◌≡◌, ◌++◌, take, flat_map}
use Rattle.kin_script.specs.PrintedJournal.{failure_line}
use Rattle.kin_check.proofs.block.Block.put.Given as goal

abbrev pub invariant-loop-seen : goal.invariant-loop-seen
invariant-loop-seen l = l.out.items ≡ l.fn.out.items ++ flat_map (failure_line l.self-inside.moment) (take l.seen-index l.seen-items)
