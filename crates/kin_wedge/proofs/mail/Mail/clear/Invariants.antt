use Rattle.kin_wedge.proofs.Posting.{AreEmptied}
use Rattle.kin_wedge.proofs.mail.Mail.clear.Given as goal

abbrev pub invariant-loop-part : goal.invariant-loop-part
invariant-loop-part l = AreEmptied l.fn.self.boxes.items l.self.boxes.items l.fn.self.end l.part
