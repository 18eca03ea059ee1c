use Rattle.std.proofs.Common.{◌≡◌, ◌+◌, map, take}
use Rattle.kin_motion.specs.Journal.{seen_in}
use Rattle.kin_motion.specs.Scene.{scene_at}
use Rattle.kin_fail.specs.Blocks.{certificate_of, failure_of}
use Rattle.kin_fail.proofs.failures.block_of.Given as goal

abbrev pub invariant-loop-owned : goal.invariant-loop-owned
invariant-loop-owned g l = record {
  seen : map failure_of l.failures.items ≡ map (λ o. seen_in (scene_at l.now.motions.now l.now.moment.now) (certificate_of o)) (take l.owned-index l.taken);
  count : l.steps ≡ l.initial.steps + l.owned-index;
}
