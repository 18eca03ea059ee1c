use Rattle.std.proofs.Common.{◌≡◌, ◌++◌, drop}
use Rattle.kin_motion.specs.Cells.{changes_of}
use Rattle.kin_overlay.specs.Walks.{last_item, gifts_before, cell_after}
use Rattle.kin_overlay.proofs.walk.walk.Given as goal

abbrev pub invariant-loop-record : goal.invariant-loop-record
invariant-loop-record l = record {
  given : l.chain.items ++ changes_of (last_item l.chain.items) (gifts_before l.cell (drop l.record-index l.records)) ≡ l.fn.chain.items ++ changes_of (last_item l.fn.chain.items) (gifts_before l.fn.start l.records);
  after : cell_after l.cell (drop l.record-index l.records) ≡ cell_after l.fn.start l.records;
}
