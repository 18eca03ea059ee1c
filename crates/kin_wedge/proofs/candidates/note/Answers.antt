use Rattle.kin_wedge.specs.Seen.{rows_of}
use Rattle.kin_wedge.proofs.Touching.{offered_stays}
use Rattle.kin_wedge.proofs.candidates.note.Goals as goal

pub returns-clause-exchanges : goal.returns-clause-exchanges
returns-clause-exchanges c = λ part a b h.
    offered_stays (rows_of c.args.orders.now.lists.items) c.args.table.now c.follow.new.touches.all.items c.note_mark.new.touches.all.items part a b c.in_ok-note_mark.ensures.touched (c.in_ok-follow.ensures.offered part a b h)

pub returns-clause-number : goal.returns-clause-number
returns-clause-number c = c.in_ok-note_mark.ensures.offered
