use Rattle.std.proofs.Common.{◌∙◌}
use Rattle.kin_overlay.proofs.ListLaws.{is_in-any}
use Rattle.kin_cases.proofs.chains.has_number.Goals as goal

pub returns : goal.returns
returns c = c.contains.ensures.value ∙ is_in-any c.args.no c.args.list.now
