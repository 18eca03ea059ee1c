use Rattle.std.proofs.Common.{◌≡◌, sym, subst, arith, []}
use Rattle.std.proofs.lemmas.Int.{to_z-of_z}
use Rattle.std.proofs.lemmas.Result.{IfOk-weaker}
use Rattle.kin_motion.specs.Live.{IsSmallKeep}
use Rattle.kin_motion.specs.Scene.{Scene}
use Rattle.kin_list.specs.Keeping.{IsListFor}
use Rattle.kin_list.specs.Listing.{Listing, IsSettledListing}
use Rattle.kin_list.proofs.VacantLaws.{empty_settled, made_for}
use Rattle.kin_list.proofs.kept.KinListKept.vacant.Goals as goal

pub returns-clause-kind : goal.returns-clause-kind
returns-clause-kind c =
    let small = subst IsSmallKeep c.in-Order.is c.requires.small in
    IfOk-weaker c.new.result _ (λ (k : Listing). IsListFor k c.args.size c.args.keep.now)
    (λ k made. made_for c.in-Order.dx c.in-Order.dy _ _ c.args.size c.args.keep.now k c.in-Order.is (grind (arith, to_z-of_z)) (grind (arith, to_z-of_z)) made) c.new.ensures

pub returns-clause-settled : goal.returns-clause-settled
returns-clause-settled c =
    IfOk-weaker c.new.result _ (λ (k : Listing). (s : Scene) → s.live ≡ [] → IsSettledListing k s)
    (λ k made s none. subst (λ (l : Listing). IsSettledListing l s) (sym made) (empty_settled s _ _ none)) c.new.ensures
