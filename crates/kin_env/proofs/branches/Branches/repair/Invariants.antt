use Rattle.std.proofs.Common.{◌≡◌, ◌<◌}
use Rattle.kin_tourney.specs.declared.doubt.Doubt.TheVariants.{Clear}
use Rattle.kin_tourney.specs.Standings.{doubt_in, doubt_count}
use Rattle.kin_tourney.specs.Repairs.{IsLowest}
use Rattle.kin_env.specs.Joints.{ArePaid}
use Rattle.kin_env.specs.Walks.{IsWalked, NodesKeepOrder}
use Rattle.kin_env.proofs.Reports.{IsReporting}
use Rattle.kin_env.proofs.branches.Branches.repair.Given as goal

abbrev pub invariant-loop-node : goal.invariant-loop-node
invariant-loop-node g l = record {
  walked : IsWalked (g.O.Signs.scene l.now) l.self;
  report : IsReporting l.initial.self l.self l.initial.out l.out;
  paid : NodesKeepOrder l.initial.self.size l.initial.self.nodes.items l.self.nodes.items → ArePaid l.initial.out l.out l.initial.steps l.steps;
  place : 0 < l.node → IsLowest l.self.doubts.items l.node;
  ended : l.node ≡ 0 → doubt_in l.self.doubts.items 1 ≡ Clear;
}

abbrev pub decreases-loop-node : goal.decreases-loop-node
decreases-loop-node g l = doubt_count l.self.doubts.items
