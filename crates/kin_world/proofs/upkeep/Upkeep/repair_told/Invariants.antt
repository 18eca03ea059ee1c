use Rattle.kin_world.proofs.Vocabulary.{◌≡◌, ◌≤◌, length, HavePaid, IsRepairing, sight, stage_of}
use Rattle.kin_world.proofs.upkeep.Upkeep.repair_told.Given as goal

abbrev pub invariant-loop-k : goal.invariant-loop-k
invariant-loop-k g l = record {
  repairing : IsRepairing (stage_of l.initial.self) (stage_of l.self) l.k l.self.mail;
  boxes : l.count ≤ length l.self.mail;
  low : l.k ≤ l.count;
  paid : HavePaid (λ live. live ≡ (sight (stage_of l.initial.self)).live) l.k (stage_of l.initial.self) (stage_of l.self) l.initial.steps l.steps;
  all : l.count ≡ length l.self.structures.items;
}
