use Rattle.std.proofs.Common.{◌≡◌, ◌++◌, ◌-◌, ◌^◌}
use Rattle.std.specs.Prelude.{flat_map}
use Rattle.kin_motion.specs.Merges.{hull_facts, hull_facts_of_node}
use Rattle.kin_motion.specs.Numbers.{numbers_from}
use Rattle.kin_plain.proofs.hull.put_hull_facts.Given as goal

abbrev pub invariant-loop-node : goal.invariant-loop-node
invariant-loop-node g l =
    l.facts.items ++ flat_map (hull_facts_of_node l.size (g.O.Signs.scene l.now)) (numbers_from l.node (2 ^ l.size - l.node)) ≡ l.fn.facts.items ++ hull_facts l.size (g.O.Signs.scene l.now)
