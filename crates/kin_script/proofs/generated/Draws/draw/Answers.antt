use Rattle.std.proofs.Common.{rules}
use Rattle.kin_script.specs.Generated.{next_state, drawn}
use Rattle.kin_script.proofs.generated.Draws.draw.Goals as goal

pub returns-clause-state : goal.returns-clause-state
unfolding next_state drawn
returns-clause-state c = search rules
