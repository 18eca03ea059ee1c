use Rattle.std.proofs.Common.{◌≡◌, ◌++◌, ◌-◌, drop}
use Rattle.kin_motion.specs.Orders.{neighbour_facts}
use Rattle.kin_plain.proofs.facts.put_neighbours.Given as goal

abbrev pub invariant-loop-place : goal.invariant-loop-place
invariant-loop-place g l =
    l.facts.items ++ neighbour_facts (g.O.Signs.scene l.now) l.dx l.dy l.part (drop (l.place - 1) l.order) ≡ l.fn.facts.items ++ neighbour_facts (g.O.Signs.scene l.now) l.dx l.dy l.part l.order
