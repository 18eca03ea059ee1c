use Rattle.kin_motion.proofs.Proved.{order_proved, extreme_proved, chain_proved, cycle_proved}
use Rattle.kin_motion.proofs.ClosestLaws.{closest_proved}
use Rattle.kin_motion.proofs.CandidateLaws.{candidate_agrees}
use Rattle.kin_motion.proofs.NearestLaws.{nearest_proved}
use Rattle.kin_motion.proofs.FarthestLaws.{farthest_proved}
use Rattle.kin_motion.proofs.OverlapLists.{overlaps_agree}
use Rattle.kin_motion.proofs.laws.computed_answers_agree.Goals as goal

pub returns-clause-order : goal.returns-clause-order
returns-clause-order c = order_proved

pub returns-clause-extreme : goal.returns-clause-extreme
returns-clause-extreme c = extreme_proved

pub returns-clause-chain : goal.returns-clause-chain
returns-clause-chain c = chain_proved

pub returns-clause-cycle : goal.returns-clause-cycle
returns-clause-cycle c = cycle_proved

pub returns-clause-closest : goal.returns-clause-closest
returns-clause-closest c = closest_proved

pub returns-clause-candidate : goal.returns-clause-candidate
returns-clause-candidate c = candidate_agrees

pub returns-clause-nearest : goal.returns-clause-nearest
returns-clause-nearest c = nearest_proved

pub returns-clause-farthest : goal.returns-clause-farthest
returns-clause-farthest c = farthest_proved

pub returns-clause-overlaps : goal.returns-clause-overlaps
returns-clause-overlaps c = overlaps_agree
