use Rattle.std.proofs.Common.{refl, Result}
use Rattle.std.specs.Prelude.{OnOk}
use Rattle.std.specs.Result.{IsErr}
use Rattle.std.proofs.lemmas.Result.{IfOk-from_err}
use Rattle.kin_algebra.proofs.Results.{on_ok}
use Rattle.kin_env.proofs.Mending.{leads_between}
use Rattle.kin_env.proofs.node.Node.begin.Goals as goal

pub returns : goal.returns
returns c =
    let d = c.in_ok-diff.ensures in
    record {
      taken = c.set.ensures;
      leads = on_ok c.set.result (leads_between c.as_slice-passed.ensures c.chain.ensures d.fit d.lead d.apart);
      failed = on_ok c.set.result refl;
    }

-- of an `Err` nothing is said
no_ok : {T E : Type 0} (P : Type 0) (r : Result T E) → IsErr r → OnOk r P
no_ok {T} {E} P r e = IfOk-from_err r (λ _. P) e

pub returns-in_err-diff : goal.returns-in_err-diff
returns-in_err-diff c =
    let r = c.from_residual.result in
    let e = c.from_residual.ensures.0 in
    record { taken = no_ok _ r e; leads = no_ok _ r e; failed = no_ok _ r e }
