use Rattle.std.proofs.Common.{◌≡◌, sym, ap, ◌∙◌, subst, arith, List, ℕ, ◌<◌, length, set}
use Rattle.std.specs.Prelude.{Option, Some, None}
use Rattle.std.proofs.lemmas.List.{get_or-map, length-map, set-get_or}
use Rattle.std.proofs.lemmas.Grind.{common_steps}
use Rattle.kin_motion.specs.declared.fact.Fact.{Fact}
use Rattle.kin_tourney.specs.Standings.{fact_in}
use Rattle.kin_tourney.proofs.report.Facts.tell.Goals as goal

pub returns-then-is_same-clause-facts : goal.returns-then-is_same-clause-facts
returns-then-is_same-clause-facts g c =
    let briefs = c.self.inside.briefs.items in
    let inner = subst (λ (n : ℕ). c.args.node < n) (length-map briefs g.K.Keyed.fact_of) (subst (λ (l : List (Option Fact)). c.args.node < length l) (sym c.self.view_is) c.requires.node) in
    let here : fact_in c.args.self.now c.args.node ≡ Some c.args.fact =
    ap (λ (l : List (Option Fact)). fact_in l c.args.node) (sym c.self.view_is) ∙ get_or-map g.K.Keyed.fact_of briefs c.args.node c.index.result.now None inner
    ∙ ap g.K.Keyed.fact_of (sym c.index.ensures) ∙ c.is_same.ensures.same c.if-is_same.true ∙ c.requires.brief in
    sym (ap (set c.args.self.now c.args.node) (sym here) ∙ set-get_or c.args.self.now c.args.node None)

pub returns-clause-reported : goal.returns-clause-reported
returns-clause-reported g c = grind (arith, common_steps)
