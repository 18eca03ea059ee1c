use Rattle.std.proofs.Common.{arith}
use Rattle.kin_motion.specs.Chains.{is_left}
use Rattle.kin_cases.proofs.ByTests.{short_chain}
use Rattle.kin_cases.proofs.ask.Sight.is_rising.Goals as goal

pub returns : goal.returns
returns g c = λ e. c.loop-rest.invariant (short_chain (is_left (g.O.Signs.scene c.args.self.now.signs.now)) c.loop-rest.rest.now (omega (arith, c.loop-rest-test.false)))
