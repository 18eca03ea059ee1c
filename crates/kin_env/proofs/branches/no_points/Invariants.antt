use Rattle.std.proofs.Common.{◌≡◌, length}
use Rattle.kin_env.specs.Walks.{AreBlank}
use Rattle.kin_env.proofs.branches.no_points.Given as goal

abbrev pub invariant-loop-made : goal.invariant-loop-made
invariant-loop-made l = record {
  blank : AreBlank l.nodes.items;
  room : length l.nodes.items ≡ l.made;
}
