use Rattle.std.proofs.Common.{ℕ, ◌<◌}
use Rattle.std.specs.List.{All}
use Rattle.std.proofs.lemmas.List.Elements.{All-more}
use Rattle.kin_cases.proofs.ByTests.{all_of}
use Rattle.kin_cases.proofs.merging.are_less.Goals as goal

pub loop-no-preserved : goal.loop-no-preserved
loop-no-preserved c =
    All-more (λ (i : ℕ). All (λ (j : ℕ). i < j) c.args.b.now) c.args.a.now c.loop-no.no-index 0 c.loop-no-test.true c.loop-no.invariant (c.is_below.ensures c.if-not-is_below.false)

pub returns : goal.returns
returns c = λ e. all_of (λ (i : ℕ). All (λ (j : ℕ). i < j) c.args.b.now) c.args.a.now c.loop-no.no-index c.loop-no-test.false c.loop-no.invariant
