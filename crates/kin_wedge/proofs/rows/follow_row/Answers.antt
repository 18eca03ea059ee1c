use Rattle.kin_wedge.specs.Seen.{rows_of}
use Rattle.kin_wedge.proofs.Following.{follow_more}
use Rattle.kin_wedge.proofs.rows.follow_row.Goals as goal

pub loop-place-preserved : goal.loop-place-preserved
loop-place-preserved c =
    follow_more (rows_of c.args.orders.now.lists.items) c.args.table.now c.args.part c.args.swaps.now c.args.row.now.items c.args.touches.now.all.items c.loop-place.row.items c.follow_one.new.row.items c.loop-place.touches.all.items c.follow_one.new.touches.all.items c.loop-place.place-index c.loop-place-test.true
    c.loop-place.invariant c.in_ok-follow_one.ensures.row c.in_ok-follow_one.ensures.offered c.in_ok-follow_one.ensures.touched
