use Rattle.std.proofs.Common.{rules}
use Rattle.kin_overlay.proofs.walk.upper.Goals as goal

pub returns-in-Zero : goal.returns-in-Zero
returns-in-Zero c = search rules
