use Rattle.kin_wedge.specs.Seen.{rows_of}
use Rattle.kin_wedge.proofs.Following.{IsFollowed}
use Rattle.kin_wedge.proofs.rows.follow_row.Given as goal

abbrev pub invariant-loop-place : goal.invariant-loop-place
invariant-loop-place l = IsFollowed (rows_of l.orders.lists.items) l.table l.part l.swaps l.fn.row.items l.row.items l.fn.touches.all.items l.touches.all.items l.place-index
