use Rattle.std.proofs.Common.{arith}
use Rattle.kin_wedge.specs.Seen.{rows_of}
use Rattle.kin_wedge.proofs.Passing.{in_each}
use Rattle.kin_wedge.proofs.Places.{first_is_in, second_is_in}
use Rattle.kin_wedge.proofs.Touching.{both_past, touched_through}
use Rattle.kin_wedge.proofs.touch.Touches.offer_past.Goals as goal

pub offer_in-requires-clause-member : goal.offer_in-requires-clause-member
offer_in-requires-clause-member c = in_each (rows_of c.args.orders.now.lists.items) c.requires.alike c.args.part c.args.first c.requires.high (first_is_in _ c.args.first c.args.second c.requires.behind) 0 (omega arith)

pub offer_in-requires-2-clause-member : goal.offer_in-requires-2-clause-member
offer_in-requires-2-clause-member c = in_each (rows_of c.args.orders.now.lists.items) c.requires.alike c.args.part c.args.second c.requires.high (second_is_in _ c.args.first c.args.second c.requires.behind) 0 (omega arith)

pub returns-clause-offered : goal.returns-clause-offered
returns-clause-offered c =
    both_past (rows_of c.args.orders.now.lists.items) c.requires.rows.apart c.args.table.now c.offer_in.new.self.all.items c.offer_in-2.new.self.all.items c.args.part c.args.first c.args.second c.requires.behind
    c.in_ok-offer_in-2.ensures.touched c.requires.low c.in_ok-offer_in.ensures.offered c.in_ok-offer_in-2.ensures.offered

pub returns-clause-touched : goal.returns-clause-touched
returns-clause-touched c = touched_through c.args.table.now _ _ _ c.in_ok-offer_in.ensures.touched c.in_ok-offer_in-2.ensures.touched
