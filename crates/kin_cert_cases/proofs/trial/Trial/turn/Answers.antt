use Rattle.kin_motion.specs.declared.fact.Placed.{Placed}
use Rattle.kin_motion.specs.Course.{live_of}
use Rattle.kin_motion.specs.Forms.{IsAskable}
use Rattle.kin_motion.specs.Scene.{scene_at, Holds}
use Rattle.kin_cert_cases.proofs.Trials.{listed_so, listed_anew}
use Rattle.kin_cert_cases.proofs.trial.Trial.turn.Goals as goal

pub remake-requires-clause-askable : goal.remake-requires-clause-askable
remake-requires-clause-askable g c = λ l there names.
    listed_so (λ (p : Placed). IsAskable (live_of c.args.motions.now) p.fact.form) c.args.self.now.table.live c.args.self.now.facts.items c.deref.result.now c.deref.ensures.value c.requires.listed (c.all_hold.ensures.askable c.if-not-all_hold.false) l there

pub remake-requires-clause-holds : goal.remake-requires-clause-holds
remake-requires-clause-holds g c = λ l there names.
    listed_so (λ (p : Placed). Holds (scene_at c.args.motions.now c.moment-now.result) p.fact) c.args.self.now.table.live c.args.self.now.facts.items c.deref.result.now c.deref.ensures.value c.requires.listed (c.all_hold.ensures.hold c.if-not-all_hold.false) l there

pub returns : goal.returns
returns g c = listed_anew c.args.number (scene_at c.args.motions.now) c.moment-now.result c.args.self.now.table c.remake.new.self c.args.self.now.facts.items c.requires.listed c.in_ok-remake.ensures.remade
