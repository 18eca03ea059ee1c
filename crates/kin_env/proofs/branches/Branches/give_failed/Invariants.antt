use Rattle.std.proofs.Common.{◌≡◌, take, length}
use Rattle.kin_env.specs.Walks.{AreGiven}
use Rattle.kin_env.proofs.branches.Branches.give_failed.Given as goal

abbrev pub invariant-loop-placed : goal.invariant-loop-placed
invariant-loop-placed l = record {
  given : AreGiven l.initial.self.nodes.items l.self.nodes.items (take l.placed-index l.failed);
  room : length l.self.nodes.items ≡ length l.initial.self.nodes.items;
  size : l.self.size ≡ l.initial.self.size;
  slots : l.self.slots.items ≡ l.initial.self.slots.items;
  doubts : l.self.doubts.items ≡ l.initial.self.doubts.items;
}
