use Rattle.std.proofs.lemmas.Result.{IfOk-weaker}
use Rattle.kin_world.proofs.KeptBoxes.{kept_overlaps}
use Rattle.kin_world.proofs.structure.Structure.overlaps.Goals as goal

pub returns : goal.returns
returns c = rw c.in-Boxes.is (IfOk-weaker c.overlaps.result _ _ (λ pairs are. kept_overlaps c.in-Boxes.boxes pairs.items are) c.overlaps.ensures)
