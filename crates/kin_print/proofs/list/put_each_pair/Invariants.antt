use Rattle.std.proofs.Common.{◌≡◌, ◌++◌, take, flat_map}
use Rattle.kin_script.specs.PrintedJournal.{two_line}
use Rattle.kin_print.proofs.list.put_each_pair.Given as goal

abbrev pub invariant-loop-pair : goal.invariant-loop-pair
invariant-loop-pair l = l.out.items ≡ l.fn.out.items ++ flat_map two_line (take l.pair-index l.pairs)
