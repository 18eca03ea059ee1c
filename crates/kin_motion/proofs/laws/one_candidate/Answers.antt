use Rattle.kin_motion.proofs.CandidateLaws.{one_candidate}
use Rattle.kin_motion.proofs.laws.one_candidate.Goals as goal

pub returns : goal.returns
returns c = one_candidate
