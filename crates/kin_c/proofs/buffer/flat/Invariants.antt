use Rattle.std.proofs.Common.{◌≡◌, ◌++◌, drop}
use Rattle.kin_c.specs.Buffers.{pairs_list}
use Rattle.kin_c.proofs.buffer.flat.Given as goal

abbrev pub invariant-loop-pair : goal.invariant-loop-pair
invariant-loop-pair l = l.numbers.items ++ pairs_list (drop l.pair-index l.pairs) ≡ pairs_list l.pairs
