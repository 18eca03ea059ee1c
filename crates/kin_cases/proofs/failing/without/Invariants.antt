use Rattle.std.proofs.Common.{take}
use Rattle.std.specs.Prelude.{Contains}
use Rattle.kin_motion.specs.declared.fact.Placed.{Placed}
use Rattle.kin_motion.specs.Sets.{ListsExactly}
use Rattle.kin_cases.proofs.failing.without.Given as goal

-- what was kept so far
abbrev pub invariant-loop-fact : goal.invariant-loop-fact
invariant-loop-fact l = ListsExactly l.kept.items (λ (p : Placed). Contains (take l.fact-index l.facts) p × ¬ (Contains l.dropped p))
