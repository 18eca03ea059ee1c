use Rattle.std.proofs.Common.{◌≡◌, List, ℕ, pos, ◌++◌, sym, ap, subst, ◌∙◌, of_z, to_z, w32}
use Rattle.std.proofs.lemmas.Result.{on_ok_weaker, on_err_weaker}
use Rattle.std.proofs.lemmas.Int.{to_z-of_z}
use Rattle.std.specs.Fmt.{signed_decimal}
use Rattle.kin_script.specs.Printed.{PutsFront}
use Rattle.kin_print.proofs.Failures.{line_pieces, line_pieces-no_offset}
use Rattle.kin_print.proofs.failure.put_line_kind.Goals as goal

pub returns-clause-ok : goal.returns-clause-ok
returns-clause-ok c =
    let text = line_pieces c.args.dx c.args.dy c.args.off c.digits-dx.result.now c.digits-dy.result.now c.digits-off.result.now (c.digits-dx.ensures ∙ ap signed_decimal (to_z-of_z w32 c.args.dx (record { sfits = c.ranges.dx.sfits }))) (c.digits-dy.ensures ∙ ap signed_decimal (to_z-of_z w32 c.args.dy (record { sfits = c.ranges.dy.sfits }))) (c.digits-off.ensures ∙ ap signed_decimal (to_z-of_z w32 c.args.off (record { sfits = c.ranges.off.sfits }))) (λ e. c.if-off-eq0.false (ap (of_z w32) e)) in
    on_ok_weaker c.put_pieces-2.result (λ e. e ∙ ap (λ (t : List ℕ). c.args.out.now.items ++ t) text) c.put_pieces-2.ensures.ok

pub returns-clause-err : goal.returns-clause-err
returns-clause-err c =
    let text = line_pieces c.args.dx c.args.dy c.args.off c.digits-dx.result.now c.digits-dy.result.now c.digits-off.result.now (c.digits-dx.ensures ∙ ap signed_decimal (to_z-of_z w32 c.args.dx (record { sfits = c.ranges.dx.sfits }))) (c.digits-dy.ensures ∙ ap signed_decimal (to_z-of_z w32 c.args.dy (record { sfits = c.ranges.dy.sfits }))) (c.digits-off.ensures ∙ ap signed_decimal (to_z-of_z w32 c.args.off (record { sfits = c.ranges.off.sfits }))) (λ e. c.if-off-eq0.false (ap (of_z w32) e)) in
    on_err_weaker c.put_pieces-2.result (λ e. subst (λ (t : List ℕ). PutsFront c.args.out.now.items c.put_pieces-2.new.out.items t) text e) c.put_pieces-2.ensures.err

pub returns-then-off-eq0-clause-ok : goal.returns-then-off-eq0-clause-ok
returns-then-off-eq0-clause-ok c =
    let zero : c.args.off ≡ pos 0 = sym (to_z-of_z w32 c.args.off (record { sfits = c.ranges.off.sfits })) ∙ ap (to_z w32) c.if-off-eq0.true in
    let text = line_pieces-no_offset c.args.dx c.args.dy c.args.off c.digits-dx.result.now c.digits-dy.result.now (c.digits-dx.ensures ∙ ap signed_decimal (to_z-of_z w32 c.args.dx (record { sfits = c.ranges.dx.sfits }))) (c.digits-dy.ensures ∙ ap signed_decimal (to_z-of_z w32 c.args.dy (record { sfits = c.ranges.dy.sfits }))) zero in
    on_ok_weaker c.put_pieces.result (λ e. e ∙ ap (λ (t : List ℕ). c.args.out.now.items ++ t) text) c.put_pieces.ensures.ok

pub returns-then-off-eq0-clause-err : goal.returns-then-off-eq0-clause-err
returns-then-off-eq0-clause-err c =
    let zero : c.args.off ≡ pos 0 = sym (to_z-of_z w32 c.args.off (record { sfits = c.ranges.off.sfits })) ∙ ap (to_z w32) c.if-off-eq0.true in
    let text = line_pieces-no_offset c.args.dx c.args.dy c.args.off c.digits-dx.result.now c.digits-dy.result.now (c.digits-dx.ensures ∙ ap signed_decimal (to_z-of_z w32 c.args.dx (record { sfits = c.ranges.dx.sfits }))) (c.digits-dy.ensures ∙ ap signed_decimal (to_z-of_z w32 c.args.dy (record { sfits = c.ranges.dy.sfits }))) zero in
    on_err_weaker c.put_pieces.result (λ e. subst (λ (t : List ℕ). PutsFront c.args.out.now.items c.put_pieces.new.out.items t) text e) c.put_pieces.ensures.err
