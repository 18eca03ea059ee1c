use Rattle.kin_motion.proofs.ClosestFactLaws.{order_facts_agree, closest_facts_agree}
use Rattle.kin_motion.proofs.CurrentLaws.{forms_agree}
use Rattle.kin_motion.proofs.ExtremeFactLaws.{extreme_facts_agree}
use Rattle.kin_motion.proofs.HullFactLaws.{hull_facts_agree}
use Rattle.kin_motion.proofs.LiveFactLaws.{live_facts_agree, failures_agree}
use Rattle.kin_motion.proofs.DiameterFactLaws.{diameter_facts_agree}
use Rattle.kin_motion.proofs.BoxFactLaws.{facts_agree}
use Rattle.kin_motion.proofs.laws.computed_facts_agree.Goals as goal

pub returns-clause-order : goal.returns-clause-order
returns-clause-order c = order_facts_agree

pub returns-clause-extreme : goal.returns-clause-extreme
returns-clause-extreme c = extreme_facts_agree

pub returns-clause-closest : goal.returns-clause-closest
returns-clause-closest c = closest_facts_agree

pub returns-clause-live : goal.returns-clause-live
returns-clause-live c = live_facts_agree

pub returns-clause-failures : goal.returns-clause-failures
returns-clause-failures c = failures_agree

pub returns-clause-merge : goal.returns-clause-merge
returns-clause-merge c = forms_agree

pub returns-clause-hull : goal.returns-clause-hull
returns-clause-hull c = hull_facts_agree

pub returns-clause-diameter : goal.returns-clause-diameter
returns-clause-diameter c = diameter_facts_agree

pub returns-clause-boxes : goal.returns-clause-boxes
returns-clause-boxes c = facts_agree
