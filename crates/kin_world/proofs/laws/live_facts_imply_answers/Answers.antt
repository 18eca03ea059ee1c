use Rattle.kin_world.proofs.Sufficiency.{live_facts_imply_answers, live_facts_stay}
use Rattle.kin_world.proofs.laws.live_facts_imply_answers.Goals as goal

pub returns : goal.returns
returns c = record { answers = live_facts_imply_answers; facts = live_facts_stay }
