use Rattle.kin_wedge.proofs.Posting.{AreSorted}
use Rattle.kin_wedge.proofs.mail.Mail.sort.Given as goal

abbrev pub invariant-loop-placed : goal.invariant-loop-placed
invariant-loop-placed l = AreSorted l.failed l.fn.self.boxes.items l.self.boxes.items l.placed-index
