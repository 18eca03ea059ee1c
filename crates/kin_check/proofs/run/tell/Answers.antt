use Rattle.std.proofs.Common.{◌≢◌, ℕ, List, rules, subst, take}
use Rattle.kin_check.specs.declared.verdict.Verdict.TheVariants as verdict
use Rattle.kin_status.specs.Written.{IsFront}
use Rattle.kin_status.proofs.Gathering.{front_take}
use Rattle.kin_check.proofs.run.tell.Goals as goal

pub returns-in-Err-clause-writes : goal.returns-in-Err-clause-writes
returns-in-Err-clause-writes g c =
    let said = c.line_of.result.now in
    let p = c.write_all.ensures.prefix in
    let parted : c.args.verdict ≢ verdict.Unsplit = search rules in
    (take p.0 said, p.1, (parted, subst (λ (text : List ℕ). IsFront (take p.0 said) text) c.line_of.ensures (front_take p.0 said)))
