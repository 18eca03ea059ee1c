use Rattle.std.proofs.Common.{◌≡◌, ◌<◌, ◌≤◌, ◌+◌}
use Rattle.kin_tourney.specs.declared.doubt.Doubt.TheVariants.{Clear}
use Rattle.kin_tourney.specs.Repairs.{IsLowest}
use Rattle.kin_tourney.specs.Standings.{doubt_in, doubt_count}
use Rattle.kin_tourney.proofs.Mending.{IsMending}
use Rattle.kin_tourney.proofs.tree.Tree.repair_doubts.Given as goal

abbrev pub invariant-loop-node : goal.invariant-loop-node
invariant-loop-node g l = record {
  mending : IsMending l.all (g.K.Keyed.key l.key) (g.O.Signs.scene l.now).sign l.initial.self 0 l.self l.initial.out l.out;
  place : 0 < l.node → IsLowest l.self.doubts l.node;
  ended : l.node ≡ 0 → doubt_in l.self.doubts 1 ≡ Clear;
  cost : l.steps + doubt_count l.self.doubts ≤ l.initial.steps + doubt_count l.initial.self.doubts;
}

abbrev pub decreases-loop-node : goal.decreases-loop-node
decreases-loop-node g l = doubt_count l.self.doubts
