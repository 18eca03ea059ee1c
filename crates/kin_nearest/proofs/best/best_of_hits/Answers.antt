use Rattle.std.proofs.Common.{arith}
use Rattle.kin_nearest.proofs.Searching.{none_searched, more_searched, nearest_found, all_asked}
use Rattle.kin_nearest.proofs.best.best_of_hits.Goals as goal

pub loop-octant-init : goal.loop-octant-init
loop-octant-init g c = none_searched c.args.wedges.now (g.O.Signs.scene c.args.now.now) c.requires.real c.requires.settled c.args.no c.args.steps.now

pub loop-octant-preserved : goal.loop-octant-preserved
loop-octant-preserved g c =
    more_searched c.args.wedges.now (g.O.Signs.scene c.args.now.now) c.requires.real c.requires.settled c.args.no c.loop-octant.octant c.args.steps.now c.loop-octant.best c.loop-octant.steps c.best_with-best.result c.best_with-best.new.steps c.loop-octant.invariant
    c.best_with-best.ensures.end c.best_with-best.ensures.hits c.best_with-best.ensures.kept c.best_with-best.ensures.tests

pub returns-clause-nearest : goal.returns-clause-nearest
returns-clause-nearest g c =
    nearest_found c.args.wedges.now (g.O.Signs.scene c.args.now.now) c.requires.real c.requires.settled c.args.no c.requires.member c.loop-octant.octant c.args.steps.now c.loop-octant.best c.loop-octant.steps (let low = c.loop-octant-test.false in let high = c.loop-octant.auto.octant-end in omega (arith, low, high)) c.loop-octant.invariant

pub returns-clause-tests : goal.returns-clause-tests
returns-clause-tests g c =
    all_asked c.args.wedges.now (g.O.Signs.scene c.args.now.now) c.requires.real c.requires.settled c.args.no c.requires.member c.loop-octant.octant c.args.steps.now c.loop-octant.best c.loop-octant.steps (let low = c.loop-octant-test.false in let high = c.loop-octant.auto.octant-end in omega (arith, low, high)) c.loop-octant.invariant
