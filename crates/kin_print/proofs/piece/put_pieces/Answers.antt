use Rattle.std.proofs.Common.{ℕ, List}
use Rattle.std.specs.Borrow.{Bor}
use Rattle.kin_algebra.proofs.Results.{on_err}
use Rattle.kin_print.proofs.Fronts.{front_between}
use Rattle.kin_print.proofs.piece.put_pieces.Goals as goal

pub returns-in_err-put_bytes-clause-err : goal.returns-in_err-put_bytes-clause-err
returns-in_err-put_bytes-clause-err c =
    on_err c.from_residual.result
    (front_between (λ (p : Bor (List ℕ)). p.now) c.args.out.now.items c.loop-piece.out.items c.put_bytes.new.out.items c.args.pieces.now c.loop-piece.piece-index c.loop-piece.invariant c.in_err-put_bytes.ensures.err)
