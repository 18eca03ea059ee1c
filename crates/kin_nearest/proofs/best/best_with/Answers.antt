use Rattle.kin_nearest.proofs.Searching.{hit_live, hit_other, search_begun, hit_here, search_on, all_reached, octant_asked}
use Rattle.kin_nearest.proofs.best.best_with.Goals as goal

pub loop-apex-init : goal.loop-apex-init
loop-apex-init g c =
    search_begun c.args.wedges.now (g.O.Signs.scene c.args.now.now) c.requires.real c.requires.settled c.args.no c.args.octant c.args.best c.args.steps.now c.hits-apex-items.result _ c.into_iter-apex-iterator.ensures.into_iter_gives c.hits-apex-items.ensures.listed c.requires.best

pub better_of-requires-clause-live : goal.better_of-requires-clause-live
better_of-requires-clause-live g c =
    hit_live c.args.wedges.now (g.O.Signs.scene c.args.now.now) c.requires.real c.requires.settled c.args.no c.args.octant c.in-Some.apex c.requires.octant
    (hit_here c.args.wedges.now (g.O.Signs.scene c.args.now.now) c.requires.real c.requires.settled c.args.no c.args.octant c.args.best c.args.steps.now c.loop-apex.best c.loop-apex.steps c.loop-apex.apex-iterator _ c.in-Some.apex c.in-Some.ensures.steps c.loop-apex.invariant)

pub better_of-requires-clause-other : goal.better_of-requires-clause-other
better_of-requires-clause-other g c =
    hit_other c.args.wedges.now (g.O.Signs.scene c.args.now.now) c.requires.real c.requires.settled c.args.no c.args.octant c.in-Some.apex c.requires.octant
    (hit_here c.args.wedges.now (g.O.Signs.scene c.args.now.now) c.requires.real c.requires.settled c.args.no c.args.octant c.args.best c.args.steps.now c.loop-apex.best c.loop-apex.steps c.loop-apex.apex-iterator _ c.in-Some.apex c.in-Some.ensures.steps c.loop-apex.invariant)

pub better_of-requires-clause-room : goal.better_of-requires-clause-room
better_of-requires-clause-room g c =
    (hit_here c.args.wedges.now (g.O.Signs.scene c.args.now.now) c.requires.real c.requires.settled c.args.no c.args.octant c.args.best c.args.steps.now c.loop-apex.best c.loop-apex.steps c.loop-apex.apex-iterator _ c.in-Some.apex c.in-Some.ensures.steps c.loop-apex.invariant).0

pub loop-apex-preserved : goal.loop-apex-preserved
loop-apex-preserved g c =
    search_on c.args.wedges.now (g.O.Signs.scene c.args.now.now) c.requires.real c.requires.settled c.args.no c.args.octant c.args.best c.args.steps.now c.loop-apex.best c.loop-apex.steps c.loop-apex.apex-iterator _ c.in-Some.apex c.in-Some.ensures.steps c.loop-apex.invariant
    c.better_of.result c.better_of.new.steps c.better_of.ensures.end c.better_of.ensures.reached c.better_of.ensures.best c.better_of.ensures.tests

pub returns-clause-end : goal.returns-clause-end
returns-clause-end g c = c.loop-apex.invariant.end

pub returns-clause-hits : goal.returns-clause-hits
returns-clause-hits g c = λ h told.
    all_reached c.args.wedges.now (g.O.Signs.scene c.args.now.now) c.requires.real c.requires.settled c.args.no c.args.octant c.args.best c.args.steps.now c.loop-apex.best c.loop-apex.steps c.loop-apex.apex-iterator c.in-None.ensures.steps.0 c.loop-apex.invariant h
    (c.hits-apex-items.ensures.room h told, told)

pub returns-clause-kept : goal.returns-clause-kept
returns-clause-kept g c = c.loop-apex.invariant.kept

pub returns-clause-tests : goal.returns-clause-tests
returns-clause-tests g c =
    octant_asked c.args.wedges.now (g.O.Signs.scene c.args.now.now) c.requires.real c.requires.settled c.args.no c.args.octant c.args.best c.args.steps.now c.loop-apex.best c.loop-apex.steps c.loop-apex.apex-iterator c.in-None.ensures.steps.0 c.loop-apex.invariant
