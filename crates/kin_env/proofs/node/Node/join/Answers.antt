use Rattle.std.proofs.Common.{sym, subst, [], Result, rules}
use Rattle.std.specs.Prelude.{OnOk, Option}
use Rattle.std.specs.Result.{IsErr}
use Rattle.std.proofs.lemmas.Result.{IfOk-from_err}
use Rattle.kin_algebra.proofs.Results.{on_ok, for_ok, at_ok}
use Rattle.kin_motion.specs.Kinetics.{HasChanged}
use Rattle.kin_overlay.specs.Overlays.{Merge}
use Rattle.kin_env.specs.Joints.{Leads, IsJoint, IsSettledThere}
use Rattle.kin_env.specs.Nodes.{chain_with, facts_with}
use Rattle.kin_env.proofs.Paid.{paid_by_born}
use Rattle.kin_env.proofs.node.Node.join.Goals as goal

pub begin-requires : goal.begin-requires
begin-requires g c = record { rest = c.in_ok-merge.ensures.rest }

pub returns : goal.returns
returns g c =
    let s = g.O.Signs.scene c.args.now.now in
    let k = c.in_ok-merge.ensures in
    let r = c.begin.result in
    let e = c.begin.ensures in
    let new = c.begin.new.self in
    record {
      joint = for_ok r _ (λ v is. subst (λ (m : Option Merge). IsJoint c.args.part m new.passed.items c.args.a.now c.args.b.now) (sym (at_ok r _ v is e.taken))
          (record { rest = k.rest; unedited = k.unedited; part = k.part; a_is = k.a; b_is = k.b; before = s; real = c.requires.real; settled = k.settled }));
      now = for_ok r _ (λ v is. subst (λ (m : Option Merge). IsSettledThere s m) (sym (at_ok r _ v is e.taken)) k.settled);
      leads = for_ok r _ (λ v is. subst (λ (m : Option Merge). Leads new.edits.items c.args.self.now.passed.items (chain_with m new.passed.items)) (sym (at_ok r _ v is e.taken)) (at_ok r _ v is e.leads));
      failed = e.failed;
      changed = for_ok r _ (λ v is. subst (λ (m : Option Merge). HasChanged [] (facts_with m) c.args.out.now c.build.new.out) (sym (at_ok r _ v is e.taken)) k.born);
      tests = on_ok r (paid_by_born [] c.in_ok-merge.merge.facts c.args.out.now c.build.new.out c.args.steps.now c.build.new.steps k.born (k.tests (search rules)));
    }

-- of an `Err` nothing is said
no_ok : {T E : Type 0} (P : Type 0) (r : Result T E) → IsErr r → OnOk r P
no_ok {T} {E} P r e = IfOk-from_err r (λ _. P) e

pub returns-in_err-merge : goal.returns-in_err-merge
returns-in_err-merge g c =
    let r = c.from_residual.result in
    let e = c.from_residual.ensures.0 in
    record { joint = no_ok _ r e; now = no_ok _ r e; leads = no_ok _ r e; failed = no_ok _ r e; changed = no_ok _ r e; tests = no_ok _ r e }
