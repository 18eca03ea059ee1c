use Rattle.std.proofs.Common.{◌≡◌, ◌++◌, ◌-◌, ◌^◌, map}
use Rattle.std.specs.Prelude.{flat_map}
use Rattle.kin_motion.specs.Numbers.{numbers_from}
use Rattle.kin_motion.specs.Parts.{moved_by}
use Rattle.kin_motion.specs.Tournaments.{tournament_facts}
use Rattle.kin_plain.specs.Nodes.{fact_of_node}
use Rattle.kin_plain.proofs.tournament.put_tournament_facts.Given as goal

abbrev pub invariant-loop-node : goal.invariant-loop-node
invariant-loop-node g l =
    l.facts.items ++ map (moved_by l.from) (flat_map (fact_of_node (g.O.Signs.scene l.now) (g.K.Contest.key l.contest) l.size l.slots) (numbers_from l.node (2 ^ l.size - l.node)))
    ≡ l.fn.facts.items ++ map (moved_by l.from) (tournament_facts (g.O.Signs.scene l.now) (g.K.Contest.key l.contest) l.size l.slots)
