use Rattle.std.proofs.Common.{◌≡◌, List, [], ◌∷◌, ◌++◌, sym, ap, subst, ◌∙◌}
use Rattle.std.specs.List.{All}
use Rattle.std.proofs.lemmas.List.Elements.{All-nil, All-cons}
use Rattle.kin_motion.specs.declared.fact.Placed.{Placed}
use Rattle.kin_motion.specs.Deltas.{Change}
use Rattle.kin_motion.specs.Scene.{scene_at, Holds}
use Rattle.kin_motion.specs.Course.{live_of}
use Rattle.kin_motion.specs.Forms.{IsAskable}
use Rattle.kin_cert_cases.specs.Listed.{AreListed}
use Rattle.kin_cert_cases.proofs.Trials.{bearing, may_bear, still_listed}
use Rattle.kin_cert_cases.proofs.trial.bear_listed.Given as given
use Rattle.kin_cert_cases.proofs.trial.bear_listed.Goals as goal
use Rattle.kin_cert_cases.proofs.trial.bear_listed.Goals.{In_ok-report_born}

-- one fact alone is born
alone : (g : given.Over) (c : In_ok-report_born g) → c.report_born.new.self ≡ bearing c.args.placed
alone g c = c.in_ok-report_born.ensures ∙ ap (λ (x : Change). record { dropped = x.dropped; born = x.born ++ c.args.placed ∷ [] }) c.new-delta.ensures

pub apply-requires-clause-change : goal.apply-requires-clause-change
apply-requires-clause-change g c = may_bear c.args.table.now.live c.args.placed c.report_born.new.self (alone g (goal.at.apply-requires-clause-change g c).In_ok-report_born) c.requires.free

pub apply-requires-clause-askable : goal.apply-requires-clause-askable
apply-requires-clause-askable g c =
    subst (λ (x : Change). All (λ (q : Placed). IsAskable (live_of c.args.motions.now) q.fact.form) x.born) (sym (alone g (goal.at.apply-requires-clause-askable g c).In_ok-report_born))
    (All-cons (λ (q : Placed). IsAskable (live_of c.args.motions.now) q.fact.form) _ [] c.requires.askable (All-nil _))

pub apply-requires-clause-holds : goal.apply-requires-clause-holds
apply-requires-clause-holds g c =
    subst (λ (x : Change). All (λ (q : Placed). Holds (scene_at c.args.motions.now c.args.now.now) q.fact) x.born) (sym (alone g (goal.at.apply-requires-clause-holds g c).In_ok-report_born))
    (All-cons (λ (q : Placed). Holds (scene_at c.args.motions.now c.args.now.now) q.fact) _ [] c.requires.holds (All-nil _))

pub returns : goal.returns
returns g c =
    let items : c.push_reserved.new.self.items ≡ c.args.facts.now.items ++ c.args.placed ∷ [] = c.push_reserved.ensures.items ∙ ap (λ (ps : List Placed). ps ++ c.args.placed ∷ []) c.reserve.ensures.items in
    subst (λ (ps : List Placed). AreListed c.apply.new.self.live ps) (sym items)
    (still_listed c.args.table.now.live c.apply.new.self.live c.args.facts.now.items c.args.placed c.report_born.new.self (scene_at c.args.motions.now) c.args.now.now (alone g (goal.at.returns g c).In_ok-report_born) c.requires.listed
    c.in_ok-apply.ensures.applied)
