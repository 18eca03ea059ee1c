use Rattle.kin_wedge.proofs.Lost.{lost_none, lost_more, lost_all}
use Rattle.kin_wedge.proofs.touch.Touches.add_lost.Goals as goal

pub loop-w-init : goal.loop-w-init
loop-w-init c = lost_none c.args.table.now c.args.self.now.all.items c.args.self.now.all.items c.args.no

pub loop-w-preserved : goal.loop-w-preserved
loop-w-preserved c = lost_more c.args.table.now c.args.self.now.all.items c.loop-w.self.all.items c.args.no _ c.loop-w.w c.loop-w.invariant c.in_ok-add_lost_in.ensures.offered c.in_ok-add_lost_in.ensures.touched

pub returns-clause-offered : goal.returns-clause-offered
returns-clause-offered c = lost_all c.args.table.now c.args.self.now.all.items c.loop-w.self.all.items c.args.no c.loop-w.w c.loop-w-test.false c.loop-w.invariant
