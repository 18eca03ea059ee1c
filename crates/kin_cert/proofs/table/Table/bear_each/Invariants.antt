use Rattle.std.proofs.Common.{◌≡◌, ◌+◌, ◌*◌, length}
use Rattle.kin_cert.specs.Cost.{TakesAtMost}
use Rattle.kin_motion.specs.Scene.{scene_at}
use Rattle.kin_cert.proofs.Changes.{AreBorn}
use Rattle.kin_cert.proofs.table.Table.bear_each.Given as goal

abbrev pub invariant-loop-placed : goal.invariant-loop-placed
invariant-loop-placed g l = record {
  born : AreBorn l.structure (scene_at l.motions) l.now l.born l.placed-index l.fn.self.live l.self.live;
  made : l.self.made ≡ l.fn.self.made;
  cost : TakesAtMost (length l.fn.self.live + length l.born) (λ r. l.placed-index * (r + 1)) l.fn.steps l.steps;
}
