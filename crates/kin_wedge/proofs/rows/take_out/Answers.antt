use Rattle.std.proofs.Common.{rules, not, nat_eq, ◌∙◌}
use Rattle.std.proofs.lemmas.Fn.{filter_same}
use Rattle.kin_wedge.proofs.AllRows.{filter-others}
use Rattle.kin_wedge.proofs.rows.take_out.Goals as goal

pub returns : goal.returns
returns c = filter_same _ (λ x. not (nat_eq x c.args.no)) _ (λ x b f' k. search rules) _ _ c.retain.ensures.filtered ∙ filter-others c.args.no c.args.row.now.items
