use Rattle.std.proofs.Common.{ap, ◌∙◌, length}
use Rattle.std.specs.Prelude.{Some}
use Rattle.std.proofs.lemmas.List.{length-set}
use Rattle.kin_cases.proofs.random.crowd_of_motions.Goals as goal

pub loop-no-preserved : goal.loop-no-preserved
loop-no-preserved c = ap length c.set.ensures.value ∙ length-set c.loop-no.motions c.loop-no.no (Some c.motion_for.result) ∙ c.loop-no.invariant
