use Rattle.std.proofs.Common.{inl, refl}
use Rattle.kin_algebra.proofs.Results.{on_err}
use Rattle.kin_tracker.proofs.Arriving.{arrived_now, goes_further, is_busy, is_here, leaps_for, leaps_on}
use Rattle.kin_tracker.proofs.counted.go_to.Goals as goal

pub loop-steps-init : goal.loop-steps-init
loop-steps-init g c = record { arrived = is_here c.args.world.now c.requires.whole; later = c.requires.later; cause = inl refl }

pub loop-steps-preserved : goal.loop-steps-preserved
loop-steps-preserved g c =
    let on = c.loop-steps.invariant.arrived in
    let h = rw c.if-branch.true at c.in_ok-leap.ensures.leapt in
    record {
      arrived = arrived_now (goes_further c.requires.whole on (leaps_on on.whole h) h.gone);
      later = h.within;
      cause = leaps_for c.recall_canonical.ensures c.loop-steps.invariant.cause h;
    }

pub returns-clause-arrived : goal.returns-clause-arrived
returns-clause-arrived g c = goes_further c.requires.whole c.loop-steps.invariant.arrived c.loop-steps.invariant.later (rw c.if-branch.false at c.in_ok-leap.ensures.leapt).gone

pub returns-in_err-leap-clause-cause : goal.returns-in_err-leap-clause-cause
returns-in_err-leap-clause-cause g c = on_err c.from_residual.result (is_busy c.loop-steps.invariant.cause c.in_err-leap.ensures.cause)
