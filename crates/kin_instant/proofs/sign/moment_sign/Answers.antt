use Rattle.std.proofs.Common.{ap, ap₂, sym, ◌∙◌, w64}
use Rattle.kin_algebra.specs.Signs.{sign_of, first_of}
use mir.Syntax.{w128}
use Rattle.kin_instant.proofs.Widths.{clean}
use Rattle.kin_instant.proofs.Values.{sign_at-At, sign_at-some, sign_at-After}
use Rattle.kin_instant.proofs.sign.moment_sign.Goals as goal

pub returns-in-After-Zero : goal.returns-in-After-Zero
returns-in-After-Zero c =
    c.then.ensures
    ∙ ap₂ first_of c.slope_sign.ensures.value (c.of.ensures ∙ ap sign_of (clean w128 c.from.result c.from.type_inv ∙ c.from.ensures ∙ clean w64 c.a.result c.a.type_inv ∙ c.a.ensures.value))
    ∙ sign_at-After c.args.p.now c.args.m.now.at c.args.m.now.phase c.in-After-Zero.is-0 (sym c.value_sign-value.ensures.value ∙ c.in-After-Zero.is-1) c.slope_sign.ensures.canonical.form

pub returns-in_default : goal.returns-in_default
returns-in_default c = c.value_sign-value.ensures.value ∙ sign_at-some c.args.p.now c.args.m.now.at c.args.m.now.phase (λ e. c.in_default.not-Zero-1 (c.value_sign-value.ensures.value ∙ e))

pub returns-in_default-2 : goal.returns-in_default-2
returns-in_default-2 c = c.value_sign-value.ensures.value ∙ sign_at-At c.args.p.now c.args.m.now.at c.args.m.now.phase c.in_default.is-0
