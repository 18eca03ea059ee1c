use Rattle.std.specs.Prelude.{◌≡◌, Some, true}
use Rattle.kin_wedge.specs.Rows.{is_in_wedge}
use Rattle.kin_wedge.specs.Seen.{octant_seen, rows_of}
use Rattle.kin_wedge.proofs.Lost.{AreOfferedBut}
use Rattle.kin_wedge.proofs.touch.Touches.offer_in.Given as goal

abbrev pub invariant-loop-apex : goal.invariant-loop-apex
invariant-loop-apex l = AreOfferedBut l.table l.w l.of (λ apex. is_in_wedge (rows_of l.orders.lists.items) (octant_seen l.octant) apex l.no ≡ true) (Some l.no) l.fn.self.all.items l.self.all.items l.apex-iterator
