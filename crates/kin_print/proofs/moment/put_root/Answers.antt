use Rattle.std.proofs.Common.{List, ℕ, ◌++◌, ap, subst, ◌∙◌, w64}
use Rattle.std.proofs.lemmas.Result.{on_ok_weaker, on_err_weaker}
use Rattle.std.proofs.lemmas.Int.{to_z-of_z}
use Rattle.std.specs.Fmt.{signed_decimal}
use Rattle.kin_script.specs.Printed.{PutsFront}
use Rattle.kin_print.proofs.Moments.{root_pieces}
use Rattle.kin_print.proofs.moment.put_root.Goals as goal

pub returns-clause-ok : goal.returns-clause-ok
returns-clause-ok c =
    let text = root_pieces c.args.a c.args.b c.args.c c.args.upper c.digits-a.result.now c.digits-b.result.now c.digits-c.result.now c.side.result.now (c.digits-a.ensures ∙ ap signed_decimal (to_z-of_z w64 c.args.a (record { sfits = c.ranges.a.sfits }))) (c.digits-b.ensures ∙ ap signed_decimal (to_z-of_z w64 c.args.b (record { sfits = c.ranges.b.sfits }))) (c.digits-c.ensures ∙ ap signed_decimal (to_z-of_z w64 c.args.c (record { sfits = c.ranges.c.sfits }))) c.side.ensures in
    on_ok_weaker c.put_pieces.result (λ e. e ∙ ap (λ (t : List ℕ). c.args.out.now.items ++ t) text) c.put_pieces.ensures.ok

pub returns-clause-err : goal.returns-clause-err
returns-clause-err c =
    let text = root_pieces c.args.a c.args.b c.args.c c.args.upper c.digits-a.result.now c.digits-b.result.now c.digits-c.result.now c.side.result.now (c.digits-a.ensures ∙ ap signed_decimal (to_z-of_z w64 c.args.a (record { sfits = c.ranges.a.sfits }))) (c.digits-b.ensures ∙ ap signed_decimal (to_z-of_z w64 c.args.b (record { sfits = c.ranges.b.sfits }))) (c.digits-c.ensures ∙ ap signed_decimal (to_z-of_z w64 c.args.c (record { sfits = c.ranges.c.sfits }))) c.side.ensures in
    on_err_weaker c.put_pieces.result (λ e. subst (λ (t : List ℕ). PutsFront c.args.out.now.items c.put_pieces.new.out.items t) text e) c.put_pieces.ensures.err
