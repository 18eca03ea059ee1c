use Rattle.std.proofs.Common.{◌≡◌, ◌*◌, length, take}
use Rattle.kin_cert.specs.Cost.{TakesAtMost, ungiven}
use Rattle.kin_cert.proofs.Changes.{AreDropped}
use Rattle.kin_cert.proofs.table.Table.drop_each.Given as goal

abbrev pub invariant-loop-placed : goal.invariant-loop-placed
invariant-loop-placed g l = record {
  dropped : AreDropped l.structure l.dropped l.placed-index l.fn.self.live l.self.live;
  made : l.self.made ≡ l.fn.self.made;
  cost : TakesAtMost (length l.fn.self.live) (λ r. ungiven l.structure l.fn.self.live (take l.placed-index l.dropped) * r) l.fn.steps l.steps;
}
