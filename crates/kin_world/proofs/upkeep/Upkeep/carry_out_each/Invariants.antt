use Rattle.kin_world.proofs.Vocabulary.{◌≡◌, ◌≤◌, length, AreLiveAfter, HasComeTo, HasSameFrame, HavePaid, IsCarriedOut, sight, stage_of}
use Rattle.kin_world.proofs.upkeep.Upkeep.carry_out_each.Given as goal

abbrev pub invariant-loop-k : goal.invariant-loop-k
invariant-loop-k g l = record {
  marked : IsCarriedOut l.mark l.k (stage_of l.self);
  come : HasComeTo l.k l.initial.self.table l.self.table;
  frame : HasSameFrame (stage_of l.initial.self) (stage_of l.self);
  low : l.k ≤ l.k-end;
  paid : HavePaid (λ live. AreLiveAfter l.mark live (sight (stage_of l.initial.self)).live) l.k (stage_of l.initial.self) (stage_of l.self) l.initial.steps l.steps;
  all : l.k-end ≡ length l.self.structures.items;
}
