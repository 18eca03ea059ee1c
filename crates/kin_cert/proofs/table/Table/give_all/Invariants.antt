use Rattle.std.proofs.Common.{◌≡◌, ◌*◌, ◌<◌, length}
use Rattle.std.specs.Vec.{vec_len, vec_capacity}
use Rattle.kin_cert.specs.Cost.{TakesAtMost}
use Rattle.kin_cert.specs.Layout.{IsGivenUpTo, due_count}
use Rattle.kin_cert.proofs.table.Table.give_all.Given as goal

abbrev pub invariant-loop-owned : goal.invariant-loop-owned
invariant-loop-owned g l = record {
  given : IsGivenUpTo l.moment l.fn.self.live l.self.live l.taken.items;
  room : vec_len l.taken < vec_capacity l.taken;
  count : length l.self.live ≡ length l.fn.self.live;
  made : l.self.made ≡ l.fn.self.made;
  cost : TakesAtMost (length l.fn.self.live) (λ r. length l.taken.items * r) l.fn.steps l.steps;
}

abbrev pub decreases-loop-owned : goal.decreases-loop-owned
decreases-loop-owned g l = due_count l.self.live
