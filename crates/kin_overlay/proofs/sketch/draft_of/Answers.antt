use Rattle.std.proofs.Common.{rules}
use Rattle.kin_overlay.proofs.sketch.draft_of.Goals as goal

pub returns-then-not-is-clause-recalled : goal.returns-then-not-is-clause-recalled
returns-then-not-is-clause-recalled c = search rules
