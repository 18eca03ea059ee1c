use Rattle.std.proofs.Common.{◌≡◌, ◌++◌, drop}
use Rattle.kin_motion.specs.ClosestFacts.{wedge_facts, wedge_facts_from}
use Rattle.kin_motion.specs.Octants.{eight_directions}
use Rattle.kin_plain.proofs.facts.put_wedge_facts.Given as goal

abbrev pub invariant-loop-part : goal.invariant-loop-part
invariant-loop-part g l =
    l.facts.items ++ wedge_facts_from (g.O.Signs.scene l.now) l.part (drop l.part eight_directions) ≡ l.fn.facts.items ++ wedge_facts (g.O.Signs.scene l.now)
