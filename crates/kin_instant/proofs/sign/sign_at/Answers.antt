use Rattle.std.proofs.Common.{rules}
use Rattle.kin_instant.proofs.sign.sign_at.Goals as goal

pub returns-in-Ratio-clause-count : goal.returns-in-Ratio-clause-count
returns-in-Ratio-clause-count g c = search rules

pub returns-in-Root-clause-count : goal.returns-in-Root-clause-count
returns-in-Root-clause-count g c = search rules
