use Rattle.std.proofs.Common.{List, subst}
use Rattle.std.specs.List.{All}
use Rattle.std.proofs.lemmas.List.{take_all}
use Rattle.std.proofs.lemmas.List.Elements.{All-more}
use Rattle.kin_motion.specs.declared.fact.Placed.{Placed}
use Rattle.kin_motion.specs.Course.{live_of}
use Rattle.kin_motion.specs.Forms.{IsAskable}
use Rattle.kin_motion.specs.Scene.{scene_at, Holds}
use Rattle.kin_cert_cases.proofs.trial.all_hold.Goals as goal

pub loop-placed-preserved : goal.loop-placed-preserved
loop-placed-preserved g c =
    record {
      askable = All-more (λ (p : Placed). IsAskable (live_of c.args.motions.now) p.fact.form) c.args.facts.now c.loop-placed.placed-index _ c.loop-placed-test.true c.loop-placed.invariant.askable (c.holds.ensures.askable c.if-not-holds.false);
      hold = All-more (λ (p : Placed). Holds (scene_at c.args.motions.now c.args.now.now) p.fact) c.args.facts.now c.loop-placed.placed-index _ c.loop-placed-test.true c.loop-placed.invariant.hold (c.holds.ensures.hold c.if-not-holds.false);
    }

pub returns-clause-askable : goal.returns-clause-askable
returns-clause-askable g c = λ yes.
    subst (λ (ps : List Placed). All (λ (p : Placed). IsAskable (live_of c.args.motions.now) p.fact.form) ps) (take_all c.loop-placed.placed-index c.args.facts.now c.loop-placed-test.false) c.loop-placed.invariant.askable

pub returns-clause-hold : goal.returns-clause-hold
returns-clause-hold g c = λ yes.
    subst (λ (ps : List Placed). All (λ (p : Placed). Holds (scene_at c.args.motions.now c.args.now.now) p.fact) ps) (take_all c.loop-placed.placed-index c.args.facts.now c.loop-placed-test.false) c.loop-placed.invariant.hold
