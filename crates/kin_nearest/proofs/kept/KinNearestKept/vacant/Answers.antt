use Rattle.std.proofs.Common.{◌≡◌, refl, sym, subst, []}
use Rattle.std.proofs.lemmas.Result.{IfOk-weaker}
use Rattle.kin_motion.specs.Scene.{Scene}
use Rattle.kin_wedge.specs.Wedging.{Wedging, IsSettledWedging}
use Rattle.kin_wedge.proofs.NoMembers.{settled_without}
use Rattle.kin_nearest.proofs.kept.KinNearestKept.vacant.Goals as goal

pub returns-clause-settled : goal.returns-clause-settled
returns-clause-settled c =
    IfOk-weaker c.new.result _ (λ (k : Wedging). (s : Scene) → s.live ≡ [] → IsSettledWedging k s)
    (λ k made s none. subst (λ (w : Wedging). IsSettledWedging w s) (sym made) (settled_without _ (record { orders = refl; facts = refl; candidates = refl }) s none)) c.new.ensures
