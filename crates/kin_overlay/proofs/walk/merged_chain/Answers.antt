use Rattle.std.proofs.Common.{◌≡◌, sym, ap, ap₂, ◌∙◌, subst, List, [], ◌++◌, ℕ, Option, Some, Result}
use Rattle.std.specs.Prelude.{OnOk, unwrap_or}
use Rattle.std.proofs.lemmas.Result.{IfOk-weaker}
use Rattle.kin_algebra.specs.declared.sign.Sign.{Sign}
use Rattle.kin_motion.specs.Cells.{changes_of}
use Rattle.kin_overlay.specs.declared.end.End.{End}
use Rattle.kin_overlay.specs.declared.record.Record.{Record}
use Rattle.kin_overlay.specs.declared.walk.Cell.{Cell}
use Rattle.kin_overlay.specs.Walks.{right_above, last_item, first_cell, gifts_before, cell_after, last_gifts, gifts, chain_from, chain_read}
use Rattle.kin_overlay.proofs.SplitLaws.{read-off}
use Rattle.kin_overlay.proofs.walk.merged_chain.Goals as goal

-- what follows from what is so on `Ok`
by : {T E P Q : Type 0} (r : Result T E) → OnOk r P → (P → Q) → OnOk r Q
by {T} {E} {P} {Q} r h f = IfOk-weaker r (λ _. P) (λ _. Q) (λ _ p. f p) h

pub returns : goal.returns
returns c =
    by c.give_until.result c.give_until.ensures
    (λ given. read-off c.args.list.now c.in-Some.left c.clear.new.self.items c.walk.new.chain.items c.give_until.new.chain.items c.first.result c.in_ok-last.last c.above_at_right-right.result c.records.result.now c.unwrap_or.result
    (sym c.left.ensures ∙ c.in-Some.is) c.clear.ensures.items c.first.ensures c.records.ensures.value c.in_ok-last.ensures.given c.in_ok-last.ensures.after (c.unwrap_or.ensures ∙ ap (λ (o : Option End). unwrap_or o c.in-Some.left) c.right.ensures) c.above_at_right-right.ensures given)
