use Rattle.std.proofs.Common.{◌+◌, ◌*◌, length, take}
use Rattle.kin_motion.specs.Scene.{scene_at}
use Rattle.kin_cert.specs.Cost.{TakesAtMost}
use Rattle.kin_cert.specs.Layout.{live_in, IsTable}
use Rattle.kin_cert.specs.Names.{HaveSameFacts, AreRenewed}
use Rattle.kin_cert.proofs.timing.time_each.Given as goal

abbrev pub invariant-loop-slot : goal.invariant-loop-slot
invariant-loop-slot g l = record {
  table : IsTable l.roll l.schedule;
  renewed : AreRenewed (scene_at l.motions) l.now (take l.slot-index l.slots) l.fn.roll l.roll;
  facts : HaveSameFacts l.fn.roll l.roll;
  cost : TakesAtMost (length (live_in l.fn.roll)) (λ r. l.slot-index * (2 * r + 1)) l.fn.steps l.steps;
}
