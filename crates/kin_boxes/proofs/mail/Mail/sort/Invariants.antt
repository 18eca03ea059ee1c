use Rattle.std.proofs.Common.{◌≡◌, filter, map, take}
use Rattle.kin_motion.specs.declared.fact.Placed.{Placed}
use Rattle.kin_boxes.specs.Boxing.{is_along_x, is_along_y, moved_back}
use Rattle.kin_boxes.proofs.mail.Mail.sort.Given as goal

abbrev pub invariant-loop-placed : goal.invariant-loop-placed
invariant-loop-placed l = (l.self.x ≡ map (λ (p : Placed). p) (filter is_along_x (take l.placed-index l.failed))) × (l.self.y ≡ map moved_back (filter is_along_y (take l.placed-index l.failed)))
