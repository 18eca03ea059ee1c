use Rattle.std.proofs.Common.{rules}
use Rattle.kin_num.proofs.instant.Instant.of.Goals as goal

pub returns-in-Ratio : goal.returns-in-Ratio
returns-in-Ratio c = search rules

pub returns-after-upper : goal.returns-after-upper
returns-after-upper c = search rules
