use Rattle.std.proofs.Common.{◌≡◌, sym, ap, ◌∙◌, rules, Some}
use Rattle.kin_sorted.specs.declared.link.Link.{Link}
use Rattle.kin_sorted.proofs.ReportLaws.{set_same}
use Rattle.kin_sorted.proofs.report.link_to.Goals as goal

pub returns-then-eq-clause-links : goal.returns-then-eq-clause-links
returns-then-eq-clause-links g c =
    let rights = c.if-old-link.true in
    let signs : c.in-Some.old.sign ≡ c.args.link.sign = search rules in
    let same : c.in-Some.old ≡ c.args.link = λ t. record { right = rights t; sign = signs t } in
    sym (set_same c.args.row.now.links c.args.slot (Some c.args.link) (c.in-Some.ensures ∙ ap (λ (l : Link). Some (Some l)) same))

pub returns-clause-tells : goal.returns-clause-tells
returns-clause-tells g c = search rules
