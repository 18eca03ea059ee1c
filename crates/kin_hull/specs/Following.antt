-- Where the chains of hulls keep their order.
use Rattle.std.specs.Prelude.{◌≡◌, ℕ}
use Rattle.kin_motion.specs.KeptOrder.{TreesKeepOrder}
use Rattle.kin_motion.specs.Scene.{Scene}
use Rattle.kin_hull.specs.Hulls.{Hull, IsSettledKinHull, HullsKeepOrder}

-- where two hulls are settled in scenes that keep the order of the trees, the chains of the hulls keep it
abbrev pub HullsFollowTrees : Type 0
HullsFollowTrees =
    (size : ℕ) (v w : Scene) (old new : Hull) → old.upper.size ≡ size → new.upper.size ≡ size → IsSettledKinHull old v → IsSettledKinHull new w → TreesKeepOrder size v w → HullsKeepOrder old new
