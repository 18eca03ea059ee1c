use Rattle.std.proofs.Common.{take}
use Rattle.std.specs.List.{All}
use Rattle.kin_motion.specs.Course.{live_of}
use Rattle.kin_motion.specs.Forms.{IsAskable}
use Rattle.kin_motion.specs.Scene.{scene_at, Holds}
use Rattle.kin_cert_cases.proofs.trial.all_hold.Given as goal

abbrev pub invariant-loop-placed : goal.invariant-loop-placed
invariant-loop-placed g l = record {
  askable : All (λ p. IsAskable (live_of l.motions) p.fact.form) (take l.placed-index l.facts);
  hold : All (λ p. Holds (scene_at l.motions l.now) p.fact) (take l.placed-index l.facts);
}
