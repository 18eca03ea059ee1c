-- Numbers that keep their order between two lists, and chains that keep it between two scenes.
use Rattle.std.specs.Prelude.{◌≡◌, ℕ, ◌*◌, ◌^◌, ◌<◌, List, filter}
use Rattle.kin_motion.specs.declared.keep.Keep.{Keep}
use Rattle.kin_motion.specs.declared.keep.Keep.TheVariants.{Order, Extreme, Hull, Closest, Range, Nearest, Diameter, Boxes}
use Rattle.kin_motion.specs.Chains.{IsUpperChain}
use Rattle.kin_motion.specs.Merges.{points_under}
use Rattle.kin_motion.specs.Numbers.{is_in, IsOnce}
use Rattle.kin_motion.specs.Scene.{Scene, reflected}

-- the numbers that both lists have are in the same order in both, and none is in one twice
pub record KeepOrder (old new : List ℕ) : Type 0 where
  pub old_once : IsOnce old
  pub new_once : IsOnce new
  pub same : filter (λ x. is_in x new) old ≡ filter (λ x. is_in x old) new

-- the upper chain of the live numbers under a node
abbrev pub IsChainOfNode : ℕ → Scene → ℕ → List ℕ → Type 0
IsChainOfNode size s node xs = IsUpperChain s (points_under size s node) xs

-- at each node of a tree over 2^size slots, the numbers that its chain has in both scenes are in the same order in both
abbrev pub TreeKeepsOrder : ℕ → Scene → Scene → Type 0
TreeKeepsOrder size v w = (node : ℕ) (old new : List ℕ) → 0 < node → node < 2 * 2 ^ size → IsChainOfNode size v node old → IsChainOfNode size w node new → KeepOrder old new

-- so it is in both trees of a hull: that of the upper chains, and that after y is turned round
pub record TreesKeepOrder (size : ℕ) (v w : Scene) : Type 0 where
  pub upper : TreeKeepsOrder size v w
  pub lower : TreeKeepsOrder size (reflected v) (reflected w)

-- where a hull is kept, its chains keep their order; nothing is required where another kind is kept
abbrev pub KeptHullKeepsOrder : ℕ → Keep → Scene → Scene → Type 0
KeptHullKeepsOrder size (Order dx dy) v w = Unit {0}
KeptHullKeepsOrder size (Extreme dx dy) v w = Unit {0}
KeptHullKeepsOrder size Hull v w = TreesKeepOrder size v w
KeptHullKeepsOrder size Closest v w = Unit {0}
KeptHullKeepsOrder size Range v w = Unit {0}
KeptHullKeepsOrder size Nearest v w = Unit {0}
KeptHullKeepsOrder size Diameter v w = Unit {0}
KeptHullKeepsOrder size (Boxes width height) v w = Unit {0}
