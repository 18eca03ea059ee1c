use Rattle.std.proofs.Common.{sym}
use Rattle.kin_boxes.proofs.Finding.{boxes_there}
use Rattle.kin_boxes.proofs.Leaving.{joined_at_rest, unmarked_at_rest, overlaps_at_rest}
use Rattle.kin_boxes.proofs.Reading.{overlaps_read}
use Rattle.kin_boxes.proofs.boxes.KinBoxes.overlaps.Goals as goal

pub sweep-requires-clause-boxes : goal.sweep-requires-clause-boxes
sweep-requires-clause-boxes c =
    let x = c.self.inside.by_x in
    let y = c.self.inside.by_y in
    let known = c.self.invariant (rw (sym c.self.view_is) at c.requires.rest.whole) in
    let rest = rw (sym c.self.view_is) at c.requires.rest.marks in
    boxes_there x y (joined_at_rest c.self.inside.leaving x y known rest) (unmarked_at_rest c.self.inside.leaving x y known rest)

pub returns : goal.returns
returns c =
    let x = c.self.inside.by_x in
    let y = c.self.inside.by_y in
    let known = c.self.invariant (rw (sym c.self.view_is) at c.requires.rest.whole) in
    let rest = rw (sym c.self.view_is) at c.requires.rest.marks in
    let pairs = c.sort_unstable.new.self.items in
    rw (sym c.self.view_is) (overlaps_at_rest c.self.inside.leaving x y known rest c.self.inside.whole pairs
    (overlaps_read x y c.self.inside.whole (joined_at_rest c.self.inside.leaving x y known rest) c.in_ok-pairs.pairs.items pairs c.in_ok-pairs.ensures
    c.sort_unstable.ensures.permutation c.sort_unstable.ensures.sorted))
