use Rattle.std.proofs.Common.{◌≡◌, sym, ap, ap₂, ◌∙◌, subst, [], ◌∷◌, ◌++◌, Option, Some, List}
use Rattle.std.specs.Prelude.{option_to_list}
use Rattle.kin_motion.specs.declared.fact.Fact.{Fact}
use Rattle.kin_overlay.specs.declared.end.End.{End}
use Rattle.kin_overlay.specs.Remembered.{facts_of, end_facts}
use Rattle.kin_overlay.specs.Reports.{IsTold}
use Rattle.kin_overlay.proofs.ReportLaws.{told-append, all-known}
use Rattle.kin_overlay.proofs.HasLaws.{has-end}
use Rattle.kin_overlay.proofs.report.tell_end.Goals as goal

pub returns : goal.returns
returns c =
    let e = c.in-Some.end in
    let known = facts_of c.args.other.now in
    let both = told-append c.args.part known (c.x_fact.result ∷ []) (option_to_list c.y_fact.result) c.args.told.now.items c.tell.new.told.items c.tell-2.new.told.items c.in_ok-tell.ensures c.in_ok-tell-2.ensures in
    let same : c.x_fact.result ∷ [] ++ option_to_list c.y_fact.result ≡ end_facts c.args.end = ap₂ (λ (x : Fact) (ys : List Fact). x ∷ ys) c.x_fact.ensures c.y_fact.ensures ∙ ap (λ (o : Option End). end_facts o) (sym c.in-Some.is) in
    subst (λ (fs : List Fact). IsTold c.args.part known fs c.args.told.now.items c.tell-2.new.told.items) same both

pub returns-then-has_end : goal.returns-then-has_end
returns-then-has_end c =
    let e = c.in-Some.end in
    let other = c.args.other.now in
    subst (λ (o : Option End). IsTold c.args.part (facts_of other) (end_facts o) c.args.told.now.items c.args.told.now.items) (sym c.in-Some.is)
    (all-known c.args.part (facts_of other) (end_facts (Some e)) c.args.told.now.items (λ f d. has-end other e f (c.has_end.ensures c.if-has_end.true) d))
