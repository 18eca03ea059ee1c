use Rattle.std.proofs.Common.{sym, subst, List, ◌++◌, map, true}
use Rattle.std.specs.Prelude.{None}
use Rattle.kin_motion.specs.declared.fact.Placed.{Placed}
use Rattle.kin_motion.specs.Kinetics.{HasChanged}
use Rattle.kin_motion.specs.Parts.{moved_by}
use Rattle.kin_tourney.specs.Tournament.{CoversAskable}
use Rattle.kin_diameter.specs.Diameter.{Diameter, facts_of, AreFewTests}
use Rattle.kin_diameter.proofs.Settling.{called, has_swept, fits_all, cells_ready, cells_told, cells_low, sound_now, settled_now, changed_now, tests_now}
use Rattle.kin_diameter.proofs.diameter.KinDiameterKinetic.settle.Goals as goal

pub renew-requires-clause-fits : goal.renew-requires-clause-fits
renew-requires-clause-fits g c = fits_all (called c.self.view_is c.self.invariant c.requires.real c.requires.ready c.requires.failing)

pub settle_pairs-requires-clause-ready : goal.settle_pairs-requires-clause-ready
settle_pairs-requires-clause-ready g c =
    cells_ready (called c.self.view_is c.self.invariant c.requires.real c.requires.ready c.requires.failing)
    (has_swept c.deref.ensures.value c.deref-2.ensures.value c.deref-3.ensures.value c.deref-4.ensures.value c.breakpoints.ensures c.in_ok-renew.ensures.sweep c.in_ok-renew.ensures.facts c.in_ok-fill.ensures.told c.in_ok-fill.ensures.cells c.in_ok-fill.ensures.seated)

pub settle_pairs-requires-clause-failing : goal.settle_pairs-requires-clause-failing
settle_pairs-requires-clause-failing g c =
    let u = c.fill.new.self.tourney in
    subst (λ (fs : List Placed). CoversAskable u.facts (g.O.Signs.scene c.args.now.now) fs) (sym c.in_ok-sort.ensures.pairs)
    (cells_told (called c.self.view_is c.self.invariant c.requires.real c.requires.ready c.requires.failing)
    (has_swept c.deref.ensures.value c.deref-2.ensures.value c.deref-3.ensures.value c.deref-4.ensures.value c.breakpoints.ensures c.in_ok-renew.ensures.sweep c.in_ok-renew.ensures.facts c.in_ok-fill.ensures.told c.in_ok-fill.ensures.cells c.in_ok-fill.ensures.seated))

pub settle_pairs-requires-clause-low : goal.settle_pairs-requires-clause-low
settle_pairs-requires-clause-low g c =
    cells_low (called c.self.view_is c.self.invariant c.requires.real c.requires.ready c.requires.failing)
    (has_swept c.deref.ensures.value c.deref-2.ensures.value c.deref-3.ensures.value c.deref-4.ensures.value c.breakpoints.ensures c.in_ok-renew.ensures.sweep c.in_ok-renew.ensures.facts c.in_ok-fill.ensures.told c.in_ok-fill.ensures.cells c.in_ok-fill.ensures.seated)

pub invariant_of-self-2 : goal.invariant_of-self-2
invariant_of-self-2 g c =
    λ w. sound_now (called c.self.view_is c.self.invariant c.requires.real c.requires.ready c.requires.failing)
    (has_swept c.deref.ensures.value c.deref-2.ensures.value c.deref-3.ensures.value c.deref-4.ensures.value c.breakpoints.ensures c.in_ok-renew.ensures.sweep c.in_ok-renew.ensures.facts c.in_ok-fill.ensures.told c.in_ok-fill.ensures.cells c.in_ok-fill.ensures.seated)
    c.in_ok-settle_pairs.ensures.same c.in_ok-settle_pairs.ensures.settled c.in_ok-settle_pairs.ensures.rest c.in_ok-settle_pairs.ensures.room

pub returns-clause-settled : goal.returns-clause-settled
returns-clause-settled g c =
    settled_now (called c.self.view_is c.self.invariant c.requires.real c.requires.ready c.requires.failing)
    (has_swept c.deref.ensures.value c.deref-2.ensures.value c.deref-3.ensures.value c.deref-4.ensures.value c.breakpoints.ensures c.in_ok-renew.ensures.sweep c.in_ok-renew.ensures.facts c.in_ok-fill.ensures.told c.in_ok-fill.ensures.cells c.in_ok-fill.ensures.seated)
    c.in_ok-settle_pairs.ensures.same c.in_ok-settle_pairs.ensures.settled None true

pub returns-clause-delta : goal.returns-clause-delta
returns-clause-delta g c =
    let v = c.settle_pairs.new.pairs in
    subst (λ (k : Diameter). HasChanged (facts_of k) (c.renew.new.self.facts ++ map (moved_by 1) v.facts) c.args.out.now c.settle_pairs.new.out) c.self.view_is
    (changed_now (called c.self.view_is c.self.invariant c.requires.real c.requires.ready c.requires.failing)
    (has_swept c.deref.ensures.value c.deref-2.ensures.value c.deref-3.ensures.value c.deref-4.ensures.value c.breakpoints.ensures c.in_ok-renew.ensures.sweep c.in_ok-renew.ensures.facts c.in_ok-fill.ensures.told c.in_ok-fill.ensures.cells c.in_ok-fill.ensures.seated)
    c.in_ok-settle_pairs.ensures.same c.in_ok-settle_pairs.ensures.settled c.args.out.now c.renew.new.out c.settle_pairs.new.out c.in_ok-renew.ensures.delta c.in_ok-settle_pairs.ensures.delta)

pub returns-clause-tests : goal.returns-clause-tests
returns-clause-tests g c =
    let new : Diameter = record { size = c.self.inside.size; upper = c.self.inside.upper.items; lower = c.self.inside.lower.items; breakpoints = c.renew.new.self.breakpoints; slopes = c.renew.new.self.facts; cells = c.settle_pairs.new.pairs; leaving = None; whole = true } in
    subst (λ (k : Diameter). AreFewTests k new c.args.failed.now c.args.steps.now c.settle_pairs.new.steps) c.self.view_is
    (tests_now (called c.self.view_is c.self.invariant c.requires.real c.requires.ready c.requires.failing)
    (has_swept c.deref.ensures.value c.deref-2.ensures.value c.deref-3.ensures.value c.deref-4.ensures.value c.breakpoints.ensures c.in_ok-renew.ensures.sweep c.in_ok-renew.ensures.facts c.in_ok-fill.ensures.told c.in_ok-fill.ensures.cells c.in_ok-fill.ensures.seated)
    c.in_ok-settle_pairs.ensures.same c.in_ok-settle_pairs.ensures.settled None true c.sort.new.self.pairs c.args.steps.now c.renew.new.steps c.settle_pairs.new.steps c.in_ok-sort.ensures.pairs c.in_ok-renew.ensures.cost c.in_ok-settle_pairs.ensures.cost)
