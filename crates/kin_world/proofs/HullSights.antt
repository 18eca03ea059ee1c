-- What each tree of a hull sees: the scene as it is, or after y is turned round. By x both see the same.
use Rattle.std.proofs.Common.{◌≡◌, refl, ℕ, pos}
use Rattle.kin_motion.specs.declared.fact.Placed.{Placed}
use Rattle.kin_motion.specs.Chains.{is_left}
use Rattle.kin_motion.specs.Merges.{IsTreeFact, IsHullFact}
use Rattle.kin_motion.specs.Scene.{Scene, IsReal, Holds, x_sign}
use Rattle.kin_motion.proofs.ChainLaws.{left_through, never_left}
use Rattle.kin_motion.proofs.RealLaws.{real_line_laws}
use Rattle.kin_motion.proofs.ReflectedLaws.{reflected-real}
use Rattle.kin_hull.specs.declared.side.Side.{Side}
use Rattle.kin_hull.specs.declared.side.Side.TheVariants.{Upper, Lower}
use Rattle.kin_hull.specs.Sides.{seen_from}
use Rattle.kin_chain.proofs.HullDetermined.{upper_holds, lower_holds}
use Rattle.kin_world.proofs.TwoOrders.{IsStrict}

pub left_is_strict : (s : Scene) → IsReal s → IsStrict (is_left s)
left_is_strict s real = record {
  never = λ i. never_left (x_sign s i i) ((real_line_laws s real).opposite (pos 1) (pos 0) i i);
  through = λ i j k. left_through _ _ _ ((real_line_laws s real).chain (pos 1) (pos 0) i j k);
}

pub seen_real : (side : Side) (s : Scene) → IsReal s → IsReal (seen_from side s)
seen_real Upper s real = real
seen_real Lower s real = reflected-real s real

pub seen_live : (side : Side) (s : Scene) → (seen_from side s).live ≡ s.live
seen_live Upper s = refl
seen_live Lower s = refl

pub seen_left : (side : Side) (s : Scene) (i j : ℕ) → is_left (seen_from side s) i j ≡ is_left s i j
seen_left Upper s i j = refl
seen_left Lower s i j = refl

-- where all facts that a hull has in one scene hold in another, so do those of each tree
pub tree_holds : (size : ℕ) (v w : Scene) → IsReal v → IsReal w → ((p : Placed) → IsHullFact size v p → Holds w p.fact) → (side : Side) (p : Placed) → IsTreeFact size (seen_from side v) p → Holds (seen_from side w) p.fact
tree_holds size v w real real' hold Upper p t = upper_holds size v w real real' hold p t
tree_holds size v w real real' hold Lower p t = lower_holds size v w real real' hold p t
