use Rattle.kin_motion.proofs.Proved.{reflected_is_mirrored}
use Rattle.kin_motion.proofs.ReflectedLaws.{reflected-real}
use Rattle.kin_motion.proofs.ReflectedFactLaws.{reflected_facts_hold, reflected_twice}
use Rattle.kin_motion.proofs.laws.reflected_is_mirrored.Goals as goal

pub returns-clause-signs : goal.returns-clause-signs
returns-clause-signs c = reflected_is_mirrored

pub returns-clause-real : goal.returns-clause-real
returns-clause-real c = reflected-real

pub returns-clause-facts : goal.returns-clause-facts
returns-clause-facts c = reflected_facts_hold

pub returns-clause-twice : goal.returns-clause-twice
returns-clause-twice c = reflected_twice
