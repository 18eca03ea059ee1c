use Rattle.kin_cases.proofs.ByTests.{chain_by_tests}
use Rattle.kin_cases.proofs.ask.Sight.is_upper_chain.Goals as goal

pub returns : goal.returns
returns g c = λ e.
    chain_by_tests (g.O.Signs.scene c.args.self.now.signs.now) c.args.set.now c.args.chain.now (c.in_ok-is_rising.ensures c.if-not-is_rising.false) (c.in_ok-is_whole.ensures e) (c.is_part.ensures c.if-not-is_part.false)
