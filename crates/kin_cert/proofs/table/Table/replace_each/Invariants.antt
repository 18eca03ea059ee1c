use Rattle.std.proofs.Common.{◌≡◌, ◌+◌, length}
use Rattle.std.specs.List.{All}
use Rattle.kin_motion.specs.Course.{live_of}
use Rattle.kin_motion.specs.Forms.{IsAskable}
use Rattle.kin_motion.specs.Scene.{scene_at, Holds}
use Rattle.kin_cert.specs.Applied.{MayApply}
use Rattle.kin_cert.specs.Cost.{change_cost}
use Rattle.kin_cert.specs.Layout.{change_of, IsLeftToApply, AreCounted, IsPaid}
use Rattle.kin_cert.proofs.table.Table.replace_each.Given as goal

abbrev pub invariant-loop-dropped : goal.invariant-loop-dropped
invariant-loop-dropped g l = record {
  may : MayApply l.structure (change_of l.rest) l.self.live;
  did : IsLeftToApply l.structure (scene_at l.motions) l.now (change_of l.all) l.fn.self.live (change_of l.rest) l.self.live;
  askable : All (λ p. IsAskable (live_of l.motions) p.fact.form) l.rest.born.now;
  holds : All (λ p. Holds (scene_at l.motions l.now) p.fact) l.rest.born.now;
  made : l.self.made ≡ l.fn.self.made;
  count : AreCounted (change_of l.all) l.fn.self.live (change_of l.rest) l.self.live;
  cost : IsPaid (length l.fn.self.live + length l.all.born.now) (change_cost l.structure (change_of l.all) l.fn.self.live) (change_cost l.structure (change_of l.rest) l.self.live) l.fn.steps l.steps;
}

abbrev pub decreases-loop-dropped : goal.decreases-loop-dropped
decreases-loop-dropped g l = length l.rest.dropped.now + length l.rest.born.now
