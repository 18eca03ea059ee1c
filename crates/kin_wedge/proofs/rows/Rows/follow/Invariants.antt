use Rattle.std.proofs.Common.{◌≡◌, ◌≤◌, true}
use Rattle.kin_wedge.specs.Passages.{AreAllLookedUp}
use Rattle.kin_wedge.specs.Seen.{rows_of}
use Rattle.kin_wedge.proofs.AllRows.{AreFollowed}
use Rattle.kin_wedge.proofs.rows.Rows.follow.Given as goal

abbrev pub invariant-loop-part : goal.invariant-loop-part
invariant-loop-part l = record {
  within : l.part ≤ 8;
  looked_up : l.is_looked_up ≡ true → AreAllLookedUp (rows_of l.orders.lists.items) l.touches.all.items;
  followed : AreFollowed l.mark l.orders.lists.items l.table l.fn.self.rows.items l.self.rows.items l.fn.touches.all.items l.touches.all.items l.part;
}
