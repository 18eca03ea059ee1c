use Rattle.std.proofs.Common.{sym}
use Rattle.kin_boxes.proofs.Leaving.{joined_marked_at_rest}
use Rattle.kin_boxes.proofs.boxes.KinBoxes.insert.Goals as goal

pub invariant_of-self-2 : goal.invariant_of-self-2
invariant_of-self-2 c =
    let known = c.self.invariant (rw (sym c.self.view_is) at c.requires.rest.whole) in
    let rest = rw (sym c.self.view_is) at c.requires.rest.marks in
    λ whole. joined_marked_at_rest c.self.inside.leaving c.self.inside.by_x c.self.inside.by_y known rest c.args.no (rw (sym c.self.view_is) at c.requires.within)
    c.enter.new.ends c.enter-2.new.ends c.in_ok-enter.ensures c.in_ok-enter-2.ensures
