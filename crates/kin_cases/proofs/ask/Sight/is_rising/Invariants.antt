use Rattle.std.proofs.Common.{length}
use Rattle.kin_motion.specs.Chains.{is_left}
use Rattle.kin_motion.specs.Numbers.{IsChain}
use Rattle.kin_cases.proofs.ask.Sight.is_rising.Given as goal

-- if the rest goes to the right, the whole does
abbrev pub invariant-loop-rest : goal.invariant-loop-rest
invariant-loop-rest g l = IsChain (is_left (g.O.Signs.scene l.self.signs.now)) l.rest → IsChain (is_left (g.O.Signs.scene l.self.signs.now)) l.chain

abbrev pub decreases-loop-rest : goal.decreases-loop-rest
decreases-loop-rest g l = length l.rest
