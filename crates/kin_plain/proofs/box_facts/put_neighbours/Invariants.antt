use Rattle.std.proofs.Common.{◌≡◌, ◌++◌, ◌-◌, drop}
use Rattle.kin_motion.specs.BoxFacts.{end_facts}
use Rattle.kin_plain.proofs.box_facts.put_neighbours.Given as goal

abbrev pub invariant-loop-place : goal.invariant-loop-place
invariant-loop-place g l =
    l.facts.items ++ end_facts (g.O.Signs.scene l.now) l.axis.dx l.axis.dy l.axis.size l.first (drop (l.place - 1) l.order)
    ≡ l.fn.facts.items ++ end_facts (g.O.Signs.scene l.now) l.axis.dx l.axis.dy l.axis.size l.first l.order
