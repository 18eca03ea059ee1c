use Rattle.std.proofs.Common.{rules}
use Rattle.kin_script.proofs.refusal.Refusal.name.Goals as goal

pub returns-in-Planned : goal.returns-in-Planned
returns-in-Planned c = search rules
