use Rattle.std.proofs.Common.{rules, not, nat_eq, ◌∙◌}
use Rattle.std.proofs.lemmas.Fn.{filter_same}
use Rattle.kin_boxes.proofs.Finding.{kept_others}
use Rattle.kin_boxes.proofs.sweep.close_box.Goals as goal

pub returns : goal.returns
returns c = filter_same _ (λ x. not (nat_eq x c.args.no)) _ (λ x b f' k. search rules) _ _ c.retain.ensures.filtered ∙ kept_others c.args.no c.args.opened.now.items
