use Rattle.std.proofs.Common.{◌≡◌, ◌≤◌}
use Rattle.kin_wedge.proofs.Settling.{AreSettledTo}
use Rattle.kin_wedge.proofs.Standing.{AreQuietTo}
use Rattle.kin_wedge.proofs.orders.Orders.settle.Given as goal

abbrev pub invariant-loop-part : goal.invariant-loop-part
invariant-loop-part g l = record {
  within : l.part ≤ 8;
  lists : AreSettledTo (g.O.Signs.scene l.now) l.initial.self.lists.items l.self.lists.items l.fn.out l.out l.fn.steps l.steps l.part;
  quiet : AreQuietTo l.fn.mark l.self.mail.boxes.items l.self.lists.items l.part;
  mail : l.self.mail.boxes.items ≡ l.initial.self.mail.boxes.items;
}
