use Rattle.std.proofs.Common.{rules}
use Rattle.kin_queue.specs.Cells.{no_cell, no_root}
use Rattle.kin_queue.proofs.Keeping.{the_same, extended, extended_set, all_kept}
use Rattle.kin_queue.proofs.instants.Instants.note.Goals as goal

pub returns-in_err-reach-clause-kept : goal.returns-in_err-reach-clause-kept
returns-in_err-reach-clause-kept c =
    let s = c.args.self.now in
    all_kept s _ c.args.id (extended s.cells.items c.reach.new.list.items c.args.id no_cell c.reach.ensures.kept) (the_same s.roots.items c.args.id no_root)

pub returns-clause-kept : goal.returns-clause-kept
returns-clause-kept c =
    let s = c.args.self.now in
    all_kept s _ c.args.id (extended_set s.cells.items c.reach.new.list.items c.args.id no_cell _ c.reach.ensures.kept) (the_same s.roots.items c.args.id no_root)

pub returns-clause-noted : goal.returns-clause-noted
returns-clause-noted c = search rules
