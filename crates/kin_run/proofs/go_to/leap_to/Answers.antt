use Rattle.kin_run.proofs.Arriving.{arrived_now, goes_further, is_here, leaps_on}
use Rattle.kin_run.proofs.go_to.leap_to.Goals as goal

pub loop-init : goal.loop-init
loop-init g c = record { arrived = is_here c.args.world.now c.requires.whole; later = c.requires.later }

pub loop-preserved : goal.loop-preserved
loop-preserved g c =
    let on = c.loop.invariant.arrived in
    let h = rw c.if-branch.true at c.in_ok-leap.ensures.leapt in
    record { arrived = arrived_now (goes_further c.requires.whole on (leaps_on on.whole h) h.gone); later = h.within }

pub returns : goal.returns
returns g c = record { arrived = goes_further c.requires.whole c.loop.invariant.arrived c.loop.invariant.later (rw c.if-branch.false at c.in_ok-leap.ensures.leapt).gone }
