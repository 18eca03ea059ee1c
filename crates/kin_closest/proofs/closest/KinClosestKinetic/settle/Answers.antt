use Rattle.std.proofs.Common.{sym, subst, List, ◌++◌, map, true}
use Rattle.kin_motion.specs.declared.fact.Placed.{Placed}
use Rattle.kin_motion.specs.Kinetics.{ListsFailing, HasChanged}
use Rattle.kin_motion.specs.Parts.{moved_by}
use Rattle.kin_list.specs.Listing.{names_leaving}
use Rattle.kin_tourney.specs.Tournament.{CoversAskable}
use Rattle.kin_closest.specs.Closing.{Closing, facts_of, AreFewTests}
use Rattle.kin_closest.proofs.Settling.{called, orders_told, within, few_numbers, candidates_low, pairs_ready, pairs_told, pairs_small, pairs_low, tests_few, settled_now, joined_now, changed_now}
use Rattle.kin_closest.proofs.closest.KinClosestKinetic.settle.Goals as goal

pub settle-requires-clause-failing : goal.settle-requires-clause-failing
settle-requires-clause-failing g c =
    let w = c.self.inside.wedges in
    subst (λ (fs : List Placed). ListsFailing w.facts (names_leaving w.mark) (g.O.Signs.scene c.args.now.now) fs) (sym c.others.ensures) (orders_told (called c.self.view_is c.self.invariant c.requires.real c.requires.ready c.requires.failing))

pub tell_all-requires-clause-within : goal.tell_all-requires-clause-within
tell_all-requires-clause-within g c = within (called c.self.view_is c.self.invariant c.requires.real c.requires.ready c.requires.failing) c.settle.ensures.same c.in_ok-settle.ensures.settled c.in_ok-settle.ensures.changed

pub tell_all-requires-clause-small : goal.tell_all-requires-clause-small
tell_all-requires-clause-small g c = few_numbers (called c.self.view_is c.self.invariant c.requires.real c.requires.ready c.requires.failing) c.settle.ensures.same c.in_ok-settle.ensures.settled c.in_ok-settle.ensures.changed

pub tell_all-requires-clause-low : goal.tell_all-requires-clause-low
tell_all-requires-clause-low g c = candidates_low (called c.self.view_is c.self.invariant c.requires.real c.requires.ready c.requires.failing) c.settle.ensures.same c.in_ok-settle.ensures.settled c.in_ok-settle.ensures.changed

pub settle_pairs-requires-clause-ready : goal.settle_pairs-requires-clause-ready
settle_pairs-requires-clause-ready g c = pairs_ready (called c.self.view_is c.self.invariant c.requires.real c.requires.ready c.requires.failing) c.settle.ensures.same c.in_ok-settle.ensures.settled c.in_ok-settle.ensures.changed c.tell_all.ensures

pub settle_pairs-requires-clause-failing : goal.settle_pairs-requires-clause-failing
settle_pairs-requires-clause-failing g c =
    let u = c.tell_all.new.pairs in
    subst (λ (fs : List Placed). CoversAskable u.facts (g.O.Signs.scene c.args.now.now) fs) (sym c.in_ok-sort.ensures.pairs) (pairs_told (called c.self.view_is c.self.invariant c.requires.real c.requires.ready c.requires.failing) c.settle.ensures.same c.in_ok-settle.ensures.settled c.in_ok-settle.ensures.changed c.tell_all.ensures)

pub settle_pairs-requires-clause-small : goal.settle_pairs-requires-clause-small
settle_pairs-requires-clause-small g c = pairs_small (called c.self.view_is c.self.invariant c.requires.real c.requires.ready c.requires.failing) c.settle.ensures.same c.in_ok-settle.ensures.settled c.in_ok-settle.ensures.changed c.tell_all.ensures

pub settle_pairs-requires-clause-low : goal.settle_pairs-requires-clause-low
settle_pairs-requires-clause-low g c = pairs_low (called c.self.view_is c.self.invariant c.requires.real c.requires.ready c.requires.failing) c.settle.ensures.same c.in_ok-settle.ensures.settled c.in_ok-settle.ensures.changed c.tell_all.ensures

pub invariant_of-self-2 : goal.invariant_of-self-2
invariant_of-self-2 g c =
    λ w. joined_now (called c.self.view_is c.self.invariant c.requires.real c.requires.ready c.requires.failing) c.settle.ensures.same c.in_ok-settle.ensures.settled c.in_ok-settle.ensures.changed c.tell_all.ensures c.in_ok-settle_pairs.ensures.same c.in_ok-settle_pairs.ensures.settled c.in_ok-settle.ensures.rest c.in_ok-settle_pairs.ensures.rest c.in_ok-settle_pairs.ensures.room

pub returns-clause-settled : goal.returns-clause-settled
returns-clause-settled g c =
    settled_now (called c.self.view_is c.self.invariant c.requires.real c.requires.ready c.requires.failing) c.settle.ensures.same c.in_ok-settle.ensures.settled c.in_ok-settle.ensures.changed c.tell_all.ensures c.in_ok-settle_pairs.ensures.same c.in_ok-settle_pairs.ensures.settled _

pub returns-clause-delta : goal.returns-clause-delta
returns-clause-delta g c =
    subst (λ (k : Closing). HasChanged (facts_of k) (c.settle.new.self.facts ++ map (moved_by 8) c.settle_pairs.new.pairs.facts) c.args.out.now c.settle_pairs.new.out) c.self.view_is
    (changed_now (called c.self.view_is c.self.invariant c.requires.real c.requires.ready c.requires.failing) c.settle.ensures.same c.in_ok-settle.ensures.settled c.in_ok-settle.ensures.changed c.tell_all.ensures c.in_ok-settle_pairs.ensures.same c.in_ok-settle_pairs.ensures.settled c.args.out.now c.settle.new.out c.settle_pairs.new.out c.in_ok-settle.ensures.delta c.in_ok-settle_pairs.ensures.delta)

pub returns-clause-tests : goal.returns-clause-tests
returns-clause-tests g c =
    let new : Closing = record { wedges = c.settle.new.self; pairs = c.settle_pairs.new.pairs; whole = true } in
    subst (λ (k : Closing). AreFewTests k new c.args.failed.now c.args.out.now c.args.steps.now c.settle_pairs.new.steps) c.self.view_is (record {
      mid = c.settle.new.steps;
      orders_out = c.settle.new.out;
      reported = c.in_ok-settle.ensures.delta;
      orders = c.in_ok-settle.ensures.tests;
      changed = c.in_ok-settle.ensures.changed;
      pairs = tests_few (called c.self.view_is c.self.invariant c.requires.real c.requires.ready c.requires.failing) c.settle.ensures.same c.in_ok-settle.ensures.settled c.in_ok-settle.ensures.changed c.tell_all.ensures c.sort.new.self.pairs c.settle.new.steps c.settle_pairs.new.steps c.in_ok-sort.ensures.pairs c.in_ok-settle_pairs.ensures.cost;
    })
