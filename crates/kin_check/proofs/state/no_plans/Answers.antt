use Rattle.std.proofs.Common.{◌^◌, arith, ap, ◌∙◌, ◌++◌, ◌∷◌, [], ◌≡◌, List, None, Option}
use Rattle.std.specs.Prelude.{replicate}
use Rattle.std.proofs.lemmas.List.{replicate_more}
use Rattle.kin_motion.specs.Plans.{Plan}
use Rattle.kin_check.proofs.state.no_plans.Goals as goal

pub loop-no-init : goal.loop-no-init
loop-no-init c = c.new-plans.ensures.items

pub loop-no-preserved : goal.loop-no-preserved
loop-no-preserved c = c.in_ok-put.ensures ∙ ap (λ (plans : List (Option Plan)). plans ++ None ∷ []) c.loop-no.invariant ∙ replicate_more c.loop-no._no None

pub returns : goal.returns
returns c =
    let high = c.loop-no-test.false in
    let end = c.numbers_below-no-end.ensures in
    let upto = c.loop-no.auto._no-end in
    let same : c.loop-no._no ≡ 2 ^ c.args.size = omega (arith, high, end, upto) in
    c.loop-no.invariant ∙ ap (λ n. replicate {A = Option Plan} n None) same
