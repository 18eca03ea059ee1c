use Rattle.std.proofs.Common.{◌≡◌, ◌++◌, take}
use Rattle.kin_print.specs.Pieces.{joined}
use Rattle.kin_print.proofs.piece.put_pieces.Given as goal

abbrev pub invariant-loop-piece : goal.invariant-loop-piece
invariant-loop-piece l = l.out.items ≡ l.fn.out.items ++ joined (take l.piece-index l.pieces)
