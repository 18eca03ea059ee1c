use Rattle.std.proofs.Common.{rules, arith}
use Rattle.std.proofs.lemmas.Grind.{common_steps}
use Rattle.kin_cert.proofs.mail.Mail.tell.Goals as goal

pub returns-then-k-len-clause-told : goal.returns-then-k-len-clause-told
returns-then-k-len-clause-told c = search rules

pub returns-clause-told : goal.returns-clause-told
returns-clause-told c = grind (arith, common_steps)
