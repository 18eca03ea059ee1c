use Rattle.std.proofs.Common.{take}
use Rattle.std.specs.Prelude.{Contains, IsFalse}
use Rattle.kin_motion.specs.declared.fact.Placed.{Placed}
use Rattle.kin_motion.specs.Scene.{Holds}
use Rattle.kin_motion.specs.Sets.{ListsExactly}
use Rattle.kin_cases.proofs.failing.failing.Given as goal

-- what fails so far
abbrev pub invariant-loop-fact : goal.invariant-loop-fact
invariant-loop-fact g l = ListsExactly l.failed.items (λ (p : Placed). Contains (take l.fact-index l.facts) p × (IsFalse (g.S.Spares.is_spared l.spares p) × ¬ (Holds (g.O.Signs.scene l.now.signs.now) p.fact)))
