use Rattle.std.proofs.Common.{sym, ap, ◌∙◌, List, ◌++◌}
use Rattle.std.proofs.Math.ListN.{drop_of_length-le}
use Rattle.std.proofs.lemmas.List.{append-nil}
use Rattle.kin_motion.specs.Cells.{changes_of}
use Rattle.kin_overlay.specs.declared.record.Record.{Record}
use Rattle.kin_overlay.specs.Walks.{last_item, gifts_before, cell_after}
use Rattle.kin_overlay.proofs.SplitLaws.{walk-step}
use Rattle.kin_overlay.proofs.walk.walk.Goals as goal

pub loop-record-preserved : goal.loop-record-preserved
loop-record-preserved c =
    let step = walk-step c.args.records.now c.loop-record.record-index _ c.loop-record.cell c.behind-cell.result c.above.result c.loop-record.chain.items c.give_until.new.chain.items _ _ c.loop-record-test.true c.above.ensures c.in_ok-give_until.ensures c.behind-cell.ensures
    c.loop-record.invariant.given c.loop-record.invariant.after in
    record { given = step.0; after = step.1 }

pub returns : goal.returns
returns c =
    let none = drop_of_length-le c.args.records.now c.loop-record-test.false in
    let chain = c.loop-record.chain.items in
    record {
      given = sym (append-nil chain) ∙ ap (λ (l : List Record). chain ++ changes_of (last_item chain) (gifts_before c.loop-record.cell l)) (sym none) ∙ c.loop-record.invariant.given;
      after = ap (λ (l : List Record). cell_after c.loop-record.cell l) (sym none) ∙ c.loop-record.invariant.after;
    }
