use Rattle.std.specs.Prelude.{Contains}
use Rattle.std.proofs.lemmas.Bool.Decides.{Decides-not}
use Rattle.kin_cases.proofs.Picked.{picked_more, all_picked}
use Rattle.kin_cases.proofs.failing.without.Goals as goal

pub loop-fact-preserved : goal.loop-fact-preserved
loop-fact-preserved c =
    picked_more c.args.facts.now c.requires (λ p. ¬ (Contains c.args.dropped.now p)) c.loop-fact.kept.items _ c.loop-fact.fact-index _ _ c.loop-fact-test.true (Decides-not c.is_among-stays.result c.is_among-stays.ensures) c.in_ok-push_if.ensures c.loop-fact.invariant

pub returns : goal.returns
returns c = all_picked c.args.facts.now c.requires (λ p. ¬ (Contains c.args.dropped.now p)) _ c.loop-fact.fact-index c.loop-fact-test.false c.loop-fact.invariant
