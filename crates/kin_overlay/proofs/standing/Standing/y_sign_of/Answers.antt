use Rattle.std.proofs.Common.{arith}
use Rattle.kin_overlay.proofs.StandingLaws.{known-height}
use Rattle.kin_overlay.proofs.AskedLaws.{an-end}
use Rattle.kin_overlay.proofs.standing.Standing.y_sign_of.Goals as goal

pub returns-clause-known : goal.returns-clause-known
returns-clause-known c = λ s stand.
    let m = c.args.self.now.list.now in
    let there = an-end m.left m.right c.args.end c.in_ok-noted.noted c.requires c.in_ok-noted.was in
    known-height s c.args.self.now c.in_ok-noted.noted c.args.a c.args.b c.in_ok-sign.sign c.in_ok-fact.fact stand there (omega (arith, c.if-noted-a.false)) (omega (arith, c.if-noted-b.false)) c.in_ok-sign.was c.in_ok-fact.ensures
    (c.is_unfailed.ensures.yes c.if-not-is_unfailed.false)
