use Rattle.kin_boxes.proofs.Members.{no_member}
use Rattle.std.proofs.Common.{false}
use Rattle.kin_boxes.proofs.kept.KinBoxesKept.mark_entering.Goals as goal

pub insert-requires-clause-new : goal.insert-requires-clause-new
insert-requires-clause-new c =
    let new = c.requires.new in no_member c.args.self.now new.0 c.args.no false c.requires.rest new.1 new.2
