use Rattle.std.proofs.Common.{refl, inl, inr}
use Rattle.kin_check.proofs.Firsts.{one_more}
use Rattle.kin_check.proofs.least.sooner.Goals as goal

pub returns-in-None-default : goal.returns-in-None-default
returns-in-None-default g c = λ scene now cs fact least fails. one_more scene now cs fact c.args.one c.args.other c.args.other least fails (rw c.in-None-default.is-0 refl)

pub returns-in-Some-None : goal.returns-in-Some-None
returns-in-Some-None g c = λ scene now cs fact least fails. one_more scene now cs fact c.args.one c.args.other c.args.one least fails (rw (c.in-Some-None.is-0, c.in-Some-None.is-1) refl)

pub returns-in-Less : goal.returns-in-Less
returns-in-Less g c = λ scene now cs fact least fails.
    one_more scene now cs fact c.args.one c.args.other c.args.other least fails
    (rw (c.in-Some-Some.is-0, c.in-Some-Some.is-1) (inl (refl, c.compare_moments.ensures.less.0 c.in-Less.is)))

pub returns-in_default : goal.returns-in_default
returns-in_default g c = λ scene now cs fact least fails.
    one_more scene now cs fact c.args.one c.args.other c.args.one least fails
    (rw (c.in-Some-Some.is-0, c.in-Some-Some.is-1) (inr (refl, λ sooner. c.in_default.not-Less (c.compare_moments.ensures.less.1 sooner))))
