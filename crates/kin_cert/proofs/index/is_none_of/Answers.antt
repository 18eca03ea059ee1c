use Rattle.std.proofs.Common.{ap, sym, ◌∙◌, inr}
use Rattle.indexmap.specs.IndexMap.{get as look_up}
use Rattle.kin_fail.specs.Rank.{is_rank}
use Rattle.kin_cert.proofs.Keys.{not_true}
use Rattle.kin_cert.proofs.Tables.{none-of}
use Rattle.kin_cert.proofs.index.is_none_of.Goals as goal

pub returns : goal.returns
returns c = λ yes.
    inr (ap (look_up is_rank c.args.others.now) (sym c.rank.ensures) ∙ none-of (look_up is_rank c.args.others.now c.rank.result) (sym c.contains_key.ensures ∙ not_true c.contains_key.result yes))
