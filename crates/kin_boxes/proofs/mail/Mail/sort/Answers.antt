use Rattle.std.proofs.Common.{◌∙◌, arith, filter}
use Rattle.std.proofs.lemmas.List.{map-id}
use Rattle.kin_motion.specs.declared.fact.Placed.{Placed}
use Rattle.kin_boxes.specs.Boxing.{is_along_x}
use Rattle.kin_boxes.proofs.Parting.{picked_all}
use Rattle.kin_boxes.proofs.mail.Mail.sort.Goals as goal

pub returns-clause-x : goal.returns-clause-x
returns-clause-x c = picked_all (λ (p : Placed). p) is_along_x c.args.failed.now c.loop-placed.self.x c.loop-placed.placed-index
    (let past = c.loop-placed-test.false in omega (arith, past)) c.loop-placed.invariant.0 ∙ map-id (filter is_along_x c.args.failed.now)
