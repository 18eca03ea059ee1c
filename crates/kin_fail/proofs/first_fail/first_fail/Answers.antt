use Rattle.kin_fail.proofs.Failing.{fails_at_root, never_fails}
use Rattle.kin_fail.proofs.first_fail.first_fail.Goals as goal

pub returns-in-Zero-clause-failure : goal.returns-in-Zero-clause-failure
returns-in-Zero-clause-failure g c = c.left_zero.ensures c.args.fact.now c.in-Zero.is

pub returns-in_default-next_root_from : goal.returns-in_default-next_root_from
returns-in_default-next_root_from g c =
    record {
      failure = never_fails c.args.p.now c.args.now.now c.recall_canonical.ensures c.args.fact.now c.requires.holds c.in_default.not-Zero c.in_default-next_root_from.ensures.kept;
      count = c.tick.ensures;
    }

pub returns : goal.returns
returns g c =
    record {
      failure = fails_at_root c.args.p.now c.args.now.now c.recall_canonical.ensures c.args.fact.now c.requires.holds c.in_default.not-Zero c.in-Some.at c.in-Some.ensures.next c.in-Some.ensures.kept;
      count = c.tick.ensures;
    }
