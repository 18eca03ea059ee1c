use Rattle.kin_wedge.proofs.Touching.{looked_up_none, looked_up_more}
use Rattle.kin_wedge.proofs.touch.Touches.add_apex.Goals as goal

pub loop-w-init : goal.loop-w-init
loop-w-init c = looked_up_none c.args.table.now c.args.self.now.all.items c.args.apex

pub loop-w-preserved : goal.loop-w-preserved
loop-w-preserved c = looked_up_more c.args.table.now c.args.self.now.all.items c.loop-w.self.all.items _ c.args.apex c.loop-w.w c.loop-w.invariant c.in_ok-add.ensures.offered c.in_ok-add.ensures.touched
