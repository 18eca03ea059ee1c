use Rattle.std.proofs.Common.{sym, ◌∙◌}
use Rattle.kin_cases.proofs.ByTests.{none_under}
use Rattle.kin_cases.proofs.ask.Sight.is_under_from.Goals as goal

pub returns-then-not-branch : goal.returns-then-not-branch
returns-then-not-branch g c = sym (none_under (g.O.Signs.scene c.args.self.now.signs.now) c.args.p c.args.q c.args.set.now (sym c.in_ok-is_left.ensures ∙ c.if-not-branch.true))
