use Rattle.std.proofs.Common.{◌≡◌, inr, sym, ◌∙◌, subst, List, [], ℕ}
use Rattle.std.proofs.lemmas.Bool.{eqb-true}
use Rattle.std.proofs.lemmas.List.{nil_from_length}
use Rattle.std.specs.Prelude.{Option}
use Rattle.kin_algebra.proofs.Results.{for_ok, at_ok}
use Rattle.kin_motion.specs.Kinetics.{HasChanged}
use Rattle.kin_overlay.specs.Overlays.{Merge}
use Rattle.kin_env.specs.Joints.{Leads, IsJoint}
use Rattle.kin_env.specs.Nodes.{chain_with, chain_of, facts_with}
use Rattle.kin_env.proofs.Following.{one_kept}
use Rattle.kin_env.proofs.Mending.{no_merge, merge_told, mended_node}
use Rattle.kin_env.proofs.Paid.{nothing_asked}
use Rattle.kin_env.proofs.Tellings.{none_failed}
use Rattle.kin_env.proofs.node.Node.visit.Goals as goal

pub keep_one-requires-clause-idle : goal.keep_one-requires-clause-idle
keep_one-requires-clause-idle g c = none_failed c.args.self.now.merge c.requires.told.spared (g.O.Signs.scene c.args.now.now) c.args.self.now.failed.items c.requires.told.failing

pub keep_one-requires-then-is_empty-2-clause-idle : goal.keep_one-requires-then-is_empty-2-clause-idle
keep_one-requires-then-is_empty-2-clause-idle g c = none_failed c.args.self.now.merge c.requires.told.spared (g.O.Signs.scene c.args.now.now) c.args.self.now.failed.items c.requires.told.failing

pub returns-then-is_empty-clause-tests : goal.returns-then-is_empty-clause-tests
returns-then-is_empty-clause-tests g c =
    let r = c.keep_one.result in
    for_ok r _ (λ v e h. nothing_asked _ _ _ _ c.args.steps.now (at_ok r _ v e c.keep_one.ensures.changed))

pub returns-then-is_empty-2-clause-tests : goal.returns-then-is_empty-2-clause-tests
returns-then-is_empty-2-clause-tests g c =
    let r = c.keep_one-then-is_empty-2.result in
    for_ok r _ (λ v e h. nothing_asked _ _ _ _ c.args.steps.now (at_ok r _ v e c.keep_one-then-is_empty-2.ensures.changed))

pub returns-then-is_empty-2-clause-visited : goal.returns-then-is_empty-2-clause-visited
returns-then-is_empty-2-clause-visited g c =
    let r = c.keep_one-then-is_empty-2.result in
    let e = c.keep_one-then-is_empty-2.ensures in
    let new = c.keep_one-then-is_empty-2.new.self in
    let empty : chain_of c.args.right.now ≡ [] = sym c.chain-b.ensures ∙ nil_from_length c.chain-b.result.now (eqb-true _ 0 (sym c.is_empty-2.ensures ∙ c.if-is_empty-2.true)) in
    for_ok r _ (λ v is. one_kept c.args.part (g.O.Signs.scene c.args.now.now) c.args.self.now new c.args.left.now c.args.right.now c.args.out.now c.keep_one-then-is_empty-2.new.out c.chain-a.result.now
    (at_ok r _ v is e.merge) (at_ok r _ v is e.passed) (inr (empty, c.chain-a.ensures)) (at_ok r _ v is e.leads) (at_ok r _ v is e.failed) (at_ok r _ v is e.changed))

pub returns-clause-tests : goal.returns-clause-tests
returns-clause-tests g c = for_ok c.join.result _ (λ v e h. at_ok c.join.result _ v e c.join.ensures.tests)

pub returns-clause-visited : goal.returns-clause-visited
returns-clause-visited g c =
    let none = no_merge c.args.self.now.merge (sym c.is_some.ensures ∙ c.if-is_some.false) in
    let r = c.join.result in
    let idle = none_failed c.args.self.now.merge c.requires.told.spared (g.O.Signs.scene c.args.now.now) c.args.self.now.failed.items c.requires.told.failing none in
    for_ok r _ (λ v e. record {
      joint =
          subst (λ (l : List ℕ). IsJoint c.args.part c.join.new.self.merge c.join.new.self.passed.items l (chain_of c.args.right.now)) c.chain-a.ensures
          (subst (λ (l : List ℕ). IsJoint c.args.part c.join.new.self.merge c.join.new.self.passed.items c.chain-a.result.now l) c.chain-b.ensures (at_ok r _ v e c.join.ensures.joint));
      now = at_ok r _ v e c.join.ensures.now;
      leads = subst (λ (m : Option Merge). Leads c.join.new.self.edits.items (chain_with m c.args.self.now.passed.items) (chain_of c.join.new.self)) (sym none) (at_ok r _ v e c.join.ensures.leads);
      failed = at_ok r _ v e c.join.ensures.failed ∙ idle;
      changed = subst (λ (m : Option Merge). HasChanged (facts_with m) (facts_with c.join.new.self.merge) c.args.out.now c.join.new.out) (sym none) (at_ok r _ v e c.join.ensures.changed);
    })

pub mend-requires-clause-told : goal.mend-requires-clause-told
mend-requires-clause-told g c = merge_told (sym c.is_some.ensures ∙ c.if-is_some.true) c.requires.told

pub returns-then-is_some-clause-visited : goal.returns-then-is_some-clause-visited
returns-then-is_some-clause-visited g c =
    let r = c.mend.result in
    let e = c.mend.ensures in
    for_ok r _ (λ v is. mended_node (sym c.is_some.ensures ∙ c.if-is_some.true)
    (at_ok r _ v is e.of) (at_ok r _ v is e.settled) (at_ok r _ v is e.leads) (at_ok r _ v is e.failed) (at_ok r _ v is e.changed))
