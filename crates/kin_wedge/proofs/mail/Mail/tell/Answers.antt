use Rattle.std.proofs.Common.{rules}
use Rattle.kin_wedge.proofs.mail.Mail.tell.Goals as goal

pub invariant_of-self : goal.invariant_of-self
invariant_of-self c = search rules
