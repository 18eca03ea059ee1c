use Rattle.std.proofs.Common.{◌≡◌, []}
use Rattle.std.proofs.lemmas.Result.{IfOk-weaker}
use Rattle.kin_motion.specs.Scene.{Scene}
use Rattle.kin_boxes.specs.Boxing.{Boxing, IsSettledBoxing}
use Rattle.kin_boxes.proofs.Members.{vacant_settled}
use Rattle.kin_boxes.proofs.kept.KinBoxesKept.vacant.Goals as goal

pub returns-clause-settled : goal.returns-clause-settled
returns-clause-settled c =
    IfOk-weaker c.new.result _ (λ (b : Boxing). (s : Scene) → s.live ≡ [] → IsSettledBoxing b s)
    (λ b made s none. vacant_settled _ _ c.args.size b made s none) c.new.ensures
