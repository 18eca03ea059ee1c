use Rattle.kin_nearest.proofs.Stepping.{way_begun, way_on, way_ended, few_asked}
use Rattle.kin_nearest.proofs.walk.walk_down.Goals as goal

pub loop-next-init : goal.loop-next-init
loop-next-init g c = way_begun (g.O.Signs.scene c.args.now.now) c.requires.real c.args.wedges.now.size c.args.no c.args.apex _ c.requires.live c.requires.other c.requires.room

pub loop-next-preserved : goal.loop-next-preserved
loop-next-preserved g c = way_on (g.O.Signs.scene c.args.now.now) c.requires.real c.args.wedges.now.size c.args.no c.args.apex _ c.loop-next.end c.loop-next.steps c.loop-next.invariant _ _ c.in-Some.ensures.next c.in-Some.ensures.room c.next_down.ensures.tests

pub returns-clause-way : goal.returns-clause-way
returns-clause-way g c = way_ended (g.O.Signs.scene c.args.now.now) c.requires.real c.args.wedges.now.size c.args.no c.args.apex _ c.loop-next.end c.loop-next.steps c.loop-next.invariant c.in_default.ensures.next

pub returns-clause-tests : goal.returns-clause-tests
returns-clause-tests g c = few_asked (g.O.Signs.scene c.args.now.now) c.requires.real c.args.wedges.now.size c.args.no c.args.apex _ c.loop-next.end c.loop-next.steps c.loop-next.invariant _ c.next_down.ensures.tests
