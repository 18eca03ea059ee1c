use Rattle.std.proofs.Common.{sym}
use Rattle.kin_boxes.proofs.Leaving.{leaves_at_rest}
use Rattle.kin_boxes.proofs.boxes.KinBoxes.remove.Goals as goal

pub invariant_of-self : goal.invariant_of-self
invariant_of-self c = λ whole. leaves_at_rest c.self.inside.leaving c.self.inside.by_x c.self.inside.by_y
    (c.self.invariant (rw (sym c.self.view_is) at c.requires.rest.whole)) (rw (sym c.self.view_is) at c.requires.rest.marks) c.args.no
    (rw (sym c.self.view_is) at c.requires.within) (rw (sym c.self.view_is) at c.requires.member)
