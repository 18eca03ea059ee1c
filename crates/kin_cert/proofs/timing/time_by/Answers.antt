use Rattle.std.proofs.Common.{Some, None, refl, sym, subst, arith}
use Rattle.kin_motion.specs.declared.fact.Fact.{Fact}
use Rattle.kin_fail.specs.Failures.{IsFirstFailure, seen_by}
use Rattle.kin_cert.specs.Layout.{fresh}
use Rattle.kin_cert.proofs.Tables.{same-slot}
use Rattle.kin_cert.proofs.Costs.{one_call}
use Rattle.kin_cert.proofs.timing.time_by.Goals as goal

pub returns-in_default : goal.returns-in_default
returns-in_default g c =
    record {
      ok = λ o there is. record {
        fails = None;
        first = subst (λ (f : Fact). IsFirstFailure (seen_by c.args.p.now) c.args.now.now f None) (sym is) c.in_default.ensures.failure;
        slots_are = sym (same-slot c.args.roll.now c.args.id (fresh o) there);
        moments_are = refl;
      };
      roll = tt;
      schedule = tt;
      cost = λ r e. omega (arith, c.in_default.ensures.count);
    }

pub returns-clause-ok : goal.returns-clause-ok
returns-clause-ok g c =
    λ o there is. record {
      fails = Some c.in-Some.at;
      first = subst (λ (f : Fact). IsFirstFailure (seen_by c.args.p.now) c.args.now.now f (Some c.in-Some.at)) (sym is) c.in-Some.ensures.failure;
      slots_are = c.set_failure.ensures (fresh o) there;
      moments_are = c.in_ok-insert.ensures.ok;
    }

pub returns-clause-cost : goal.returns-clause-cost
returns-clause-cost g c = λ r e. let one = one_call _ _ _ c.insert.ensures.cost r e in omega (arith, one, c.in-Some.ensures.count)
