use Rattle.std.proofs.Common.{rules, ◌≡◌, true, arith, to_z, of_z, w32, w64}
use Rattle.kin_run.proofs.Vocabulary.{to_z-of_z, err_from_is_err_and, on_ok, line, IsSlowVelocity, IsRootInRange, asks_otherwise, printer}
use Rattle.kin_status.proofs.Tallying.{none_tallied}
use Rattle.kin_status.proofs.Gathering.{gains_put}
use Rattle.kin_status.proofs.Performing.{replied}
use Rattle.kin_status.proofs.NamedRoots.{handed_ratio}
use Rattle.kin_run.proofs.perform.perform.Goals as goal

pub returns-in-AtRatio-clause-performs : goal.returns-in-AtRatio-clause-performs
returns-in-AtRatio-clause-performs g c =
    rw c.in-AtRatio.is (c.move_to.ensures.performs true (line c.in-AtRatio.n c.in-AtRatio.d) (handed_ratio c.in-AtRatio.n c.in-AtRatio.d c.ratio.result (rw c.in-AtRatio.is at c.requires.range) c.ratio.ensures.value c.ratio.ensures.canonical))

pub returns-in-Turn-clause-performs : goal.returns-in-Turn-clause-performs
returns-in-Turn-clause-performs g c =
    let u = c.in-Turn.u in
    let v = c.in-Turn.v in
    let range : IsSlowVelocity u v = (rw c.in-Turn.is at c.requires.range).1 in
    let u_is : to_z w32 (of_z w32 u) ≡ u = grind (arith, to_z-of_z, range.u_small) in
    let v_is : to_z w32 (of_z w32 v) ≡ v = grind (arith, to_z-of_z, range.v_small) in
    rw c.in-Turn.is (rw (u_is, v_is) at c.turn.ensures.performs c.args.journal (printer (g.K.Sink.held c.args.sink.now) c.args.out.now.items))

pub returns-in-Leg-clause-performs : goal.returns-in-Leg-clause-performs
returns-in-Leg-clause-performs g c =
    let u = c.in-Leg.u in
    let v = c.in-Leg.v in
    let range : IsSlowVelocity u v = (rw c.in-Leg.is at c.requires.range).2 in
    let u_is : to_z w32 (of_z w32 u) ≡ u = grind (arith, to_z-of_z, range.u_small) in
    let v_is : to_z w32 (of_z w32 v) ≡ v = grind (arith, to_z-of_z, range.v_small) in
    rw c.in-Leg.is (rw (u_is, v_is) at c.leg.ensures.performs c.args.journal (printer (g.K.Sink.held c.args.sink.now) c.args.out.now.items))

pub returns-in-Replace-clause-performs : goal.returns-in-Replace-clause-performs
returns-in-Replace-clause-performs g c = search rules

pub returns-in_err-put_next-in-Next-clause-performs : goal.returns-in_err-put_next-in-Next-clause-performs
returns-in_err-put_next-in-Next-clause-performs g c =
    let e = err_from_is_err_and c.from_residual.result c.from_residual.ensures.1 in
    let put = c.in_err-put_next-in-Next.ensures.line in
    rw (c.in-Next.is, e.1, e.2) ((λ r h. h), record { text = put.0; gained = gains_put (g.K.Sink.held c.args.sink.now) c.args.out.now.items c.put_next.new.out.items put.0 put.1; is = put.2 })

pub returns-in_ok-put_next-in-Next-clause-performs : goal.returns-in_ok-put_next-in-Next-clause-performs
returns-in_ok-put_next-in-Next-clause-performs g c =
    let put = c.in_ok-put_next-in-Next.ensures.line in
    let leads = c.in_ok-put_next-in-Next.ensures.leads in
    rw c.in-Next.is (record { text = put.0; gained = gains_put (g.K.Sink.held c.args.sink.now) c.args.out.now.items c.put_next.new.out.items put.0 put.1; is = (leads.0, record { allowed = λ r h. h; prints = put.2; leads = leads.1 }, leads.2) })

pub returns-in_default-clause-performs : goal.returns-in_default-clause-performs
returns-in_default-clause-performs g c = search (rules, arith, asks_otherwise, replied, c.put_reply_to.ensures.line)

-- ---- the blocks that are passed
pub returns-in-AtRatio-clause-tallied : goal.returns-in-AtRatio-clause-tallied
returns-in-AtRatio-clause-tallied g c =
    rw c.in-AtRatio.is (c.move_to.ensures.tallied true (line c.in-AtRatio.n c.in-AtRatio.d) (handed_ratio c.in-AtRatio.n c.in-AtRatio.d c.ratio.result (rw c.in-AtRatio.is at c.requires.range) c.ratio.ensures.value c.ratio.ensures.canonical))

pub returns-in-Some-clause-tallied : goal.returns-in-Some-clause-tallied
returns-in-Some-clause-tallied g c =
    let q = c.in-AtRoot in
    let range : IsRootInRange q.a q.b q.c = rw q.is at c.requires.range in
    let a_is : to_z w64 (of_z w64 q.a) ≡ q.a = grind (arith, to_z-of_z, range.a_small) in
    let b_is : to_z w64 (of_z w64 q.b) ≡ q.b = grind (arith, to_z-of_z, range.b_small) in
    let c_is : to_z w64 (of_z w64 q.c) ≡ q.c = grind (arith, to_z-of_z, range.c_small) in
    rw q.is (c.move_to-in-Some.ensures.tallied q.upper (record { a = q.a; b = q.b; c = q.c }) (rw (a_is, b_is, c_is) at c.in-Some.ensures))

pub returns-in_default-clause-tallied : goal.returns-in_default-clause-tallied
returns-in_default-clause-tallied g c = search (rules, arith, asks_otherwise, on_ok, none_tallied)
