use Rattle.std.proofs.Common.{◌≡◌, ◌++◌, drop}
use Rattle.kin_motion.specs.Live.{live_facts, live_facts_from}
use Rattle.kin_plain.proofs.keeps.live_facts.Given as goal

abbrev pub invariant-loop-structure : goal.invariant-loop-structure
invariant-loop-structure g l = l.owned.items ++ live_facts_from l.structure l.size (drop l.structure l.keeps) (g.O.Signs.scene l.now) ≡ live_facts l.size l.keeps (g.O.Signs.scene l.now)
