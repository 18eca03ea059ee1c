use Rattle.std.proofs.Common.{◌≡◌, sym, subst, []}
use Rattle.std.proofs.lemmas.Result.{IfOk-weaker}
use Rattle.kin_motion.specs.Scene.{Scene}
use Rattle.kin_range.specs.Ranging.{Ranging, IsSettledRanging}
use Rattle.kin_range.proofs.Settling.{vacant_settled}
use Rattle.kin_range.proofs.kept.KinRangeKept.vacant.Goals as goal

pub returns-clause-settled : goal.returns-clause-settled
returns-clause-settled c =
    IfOk-weaker c.new.result _ (λ (r : Ranging). (s : Scene) → s.live ≡ [] → IsSettledRanging r s)
    (λ r made s none. subst (λ (k : Ranging). IsSettledRanging k s) (sym made) (vacant_settled c.args.size s none)) c.new.ensures
