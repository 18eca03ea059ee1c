use Rattle.std.proofs.Common.{ℕ, ◌<◌}
use Rattle.std.proofs.lemmas.List.Elements.{All-more}
use Rattle.kin_cases.proofs.ByTests.{all_of}
use Rattle.kin_cases.proofs.merging.is_below.Goals as goal

pub loop-other-preserved : goal.loop-other-preserved
loop-other-preserved c = All-more (λ (j : ℕ). c.args.no < j) c.args.list.now c.loop-other.other-index 0 c.loop-other-test.true c.loop-other.invariant c.if-no-other.false

pub returns : goal.returns
returns c = λ e. all_of (λ (j : ℕ). c.args.no < j) c.args.list.now c.loop-other.other-index c.loop-other-test.false c.loop-other.invariant
