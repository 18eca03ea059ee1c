use Rattle.std.proofs.Common.{◌≡◌, ap, sym, ◌∙◌, subst}
use Rattle.kin_motion.specs.declared.fact.Placed.{Placed}
use Rattle.kin_motion.specs.declared.fact.Fact.{Fact}
use Rattle.kin_motion.specs.Forms.{polynomial_of}
use Rattle.kin_fail.specs.Failures.{IsFirstFailure, seen_by}
use Rattle.kin_check.proofs.Firsts.{failure_seen, holds_seen}
use Rattle.kin_check.proofs.least.failure_of.Goals as goal

pub first_fail-requires : goal.first_fail-requires
first_fail-requires g c =
    let f = c.args.fact.now.placed.fact in
    let is : c.placed.result.fact ≡ f = ap (λ (p : Placed). p.fact) c.placed.ensures in
    let p = c.poly_of-p.ensures ∙ ap (λ (x : Fact). polynomial_of c.args.motions.now x.form) is in
    record { holds = holds_seen c.args.motions.now c.args.now.now f c.poly_of-p.result p c.requires.holds ∙ ap (λ (x : Fact). x.sign) (sym is) }

pub returns : goal.returns
returns g c =
    let f = c.args.fact.now.placed.fact in
    let is : c.placed.result.fact ≡ f = ap (λ (p : Placed). p.fact) c.placed.ensures in
    let p = c.poly_of-p.ensures ∙ ap (λ (x : Fact). polynomial_of c.args.motions.now x.form) is in
    failure_seen c.args.motions.now c.args.now.now f c.poly_of-p.result p c.first_fail.result
    (subst (λ (x : Fact). IsFirstFailure (seen_by c.poly_of-p.result) c.args.now.now x c.first_fail.result) is c.first_fail.ensures.failure)
