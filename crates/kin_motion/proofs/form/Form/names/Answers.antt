use Rattle.std.proofs.Common.{rules}
use Rattle.kin_motion.proofs.form.Form.names.Goals as goal

pub returns-then-no-j : goal.returns-then-no-j
returns-then-no-j c = search rules

pub returns-else-no-j : goal.returns-else-no-j
returns-else-no-j c = search rules
