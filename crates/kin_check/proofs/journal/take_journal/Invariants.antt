use Rattle.kin_num.specs.Grains.{moments_left}
use Rattle.kin_check.proofs.Journals.{IsPassing}
use Rattle.kin_check.proofs.journal.take_journal.Given as goal

abbrev pub invariant-loop-block : goal.invariant-loop-block
invariant-loop-block g l = IsPassing l.state l.fn.asked l.fn.claim l.from l.claim

abbrev pub decreases-loop-block : goal.decreases-loop-block
decreases-loop-block g l = moments_left l.from
