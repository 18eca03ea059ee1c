use Rattle.kin_motion.specs.Scene.{Holds, scene_at}
use Rattle.kin_sorted_cases.proofs.Failing.{ArePicked}
use Rattle.kin_sorted_cases.proofs.points.failing.Given as goal

abbrev pub invariant-loop-placed : goal.invariant-loop-placed
invariant-loop-placed g l = ArePicked (λ p. ¬ (Holds (scene_at l.now.motions.now l.now.moment.now) p.fact)) l.facts l.placed-index l.failed.items
