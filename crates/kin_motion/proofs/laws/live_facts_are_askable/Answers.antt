use Rattle.kin_motion.proofs.AskableLaws.{live_facts_are_askable}
use Rattle.kin_motion.proofs.laws.live_facts_are_askable.Goals as goal

pub returns : goal.returns
returns c = live_facts_are_askable
