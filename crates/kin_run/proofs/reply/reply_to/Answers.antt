use Rattle.std.proofs.Common.{rules}
use Rattle.kin_run.proofs.reply.reply_to.Goals as goal

pub returns-in-Extreme : goal.returns-in-Extreme
returns-in-Extreme c = search rules
