use Rattle.std.proofs.Common.{List, ℕ, ◌++◌, ap, subst, ◌∙◌, of_z, w64}
use Rattle.std.proofs.lemmas.Result.{on_ok_weaker, on_err_weaker}
use Rattle.std.proofs.lemmas.Int.{to_z-of_z}
use Rattle.std.specs.Fmt.{signed_decimal}
use Rattle.kin_script.specs.Printed.{PutsFront}
use Rattle.kin_print.proofs.Moments.{ratio_pieces}
use Rattle.kin_print.proofs.moment.put_ratio.Goals as goal

pub returns-clause-ok : goal.returns-clause-ok
returns-clause-ok c =
    let text = ratio_pieces c.args.n c.args.d c.digits-n.result.now c.digits.result.now (c.digits-n.ensures ∙ ap signed_decimal (to_z-of_z w64 c.args.n (record { sfits = c.ranges.n.sfits }))) (c.digits.ensures ∙ ap signed_decimal (to_z-of_z w64 c.args.d (record { sfits = c.ranges.d.sfits }))) c.requires (λ e. c.if-d-eq1.false (ap (of_z w64) e)) in
    on_ok_weaker c.put_pieces-2.result (λ e. e ∙ ap (λ (t : List ℕ). c.args.out.now.items ++ t) text) c.put_pieces-2.ensures.ok

pub returns-clause-err : goal.returns-clause-err
returns-clause-err c =
    let text = ratio_pieces c.args.n c.args.d c.digits-n.result.now c.digits.result.now (c.digits-n.ensures ∙ ap signed_decimal (to_z-of_z w64 c.args.n (record { sfits = c.ranges.n.sfits }))) (c.digits.ensures ∙ ap signed_decimal (to_z-of_z w64 c.args.d (record { sfits = c.ranges.d.sfits }))) c.requires (λ e. c.if-d-eq1.false (ap (of_z w64) e)) in
    on_err_weaker c.put_pieces-2.result (λ e. subst (λ (t : List ℕ). PutsFront c.args.out.now.items c.put_pieces-2.new.out.items t) text e) c.put_pieces-2.ensures.err
