use Rattle.std.proofs.Common.{refl}
use Rattle.kin_script.specs.Inputs.{IsInputText}
use Rattle.kin_check.proofs.Splitting.{wrong_claim}
use Rattle.kin_check.proofs.verdict.check.Goals as goal

pub returns-in_default-clause-yes : goal.returns-in_default-clause-yes
returns-in_default-clause-yes c = (λ e. absurd cc, λ claim. absurd (c.in_default.ensures claim.0 claim.1 claim.2.parted))

pub returns-then-branch-clause-unsplit : goal.returns-then-branch-clause-unsplit
returns-then-branch-clause-unsplit c = (λ e. absurd cc, λ none. absurd (none c.in-Some.script.now c.in-Some.claim.now c.in-Some.ensures.parted))

pub returns-else-branch-clause-yes : goal.returns-else-branch-clause-yes
returns-else-branch-clause-yes c =
    let other : ¬ (IsInputText c.in-Some.script.now c.in-Some.claim.now) = λ h. let t = c.in_ok-is_text_of.ensures.1 h in let f = c.if-branch.false in cc in
    (λ e. absurd cc, λ claim. absurd (wrong_claim c.args.input.now c.in-Some.script.now c.in-Some.claim.now c.in-Some.ensures other claim))

pub returns-else-branch-clause-unsplit : goal.returns-else-branch-clause-unsplit
returns-else-branch-clause-unsplit c = (λ e. absurd cc, λ none. absurd (none c.in-Some.script.now c.in-Some.claim.now c.in-Some.ensures.parted))

pub returns-else-branch-clause-no : goal.returns-else-branch-clause-no
returns-else-branch-clause-no c =
    let other : ¬ (IsInputText c.in-Some.script.now c.in-Some.claim.now) = λ h. let t = c.in_ok-is_text_of.ensures.1 h in let f = c.if-branch.false in cc in
    (λ e. (wrong_claim c.args.input.now c.in-Some.script.now c.in-Some.claim.now c.in-Some.ensures other, λ none. none c.in-Some.script.now c.in-Some.claim.now c.in-Some.ensures.parted), λ h. refl)
