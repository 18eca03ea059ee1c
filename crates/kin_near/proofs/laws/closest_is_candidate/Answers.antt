use Rattle.kin_near.proofs.ClosestPoints.{closest_proved}
use Rattle.kin_near.proofs.laws.closest_is_candidate.Goals as goal

pub returns : goal.returns
returns c = closest_proved
