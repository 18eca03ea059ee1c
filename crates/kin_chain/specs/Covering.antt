-- An upper chain covers its set.
use Rattle.std.specs.Prelude.{◌≡◌, ℕ, List, ◌∷◌, ◌++◌, IsTrue, IsFalse}
use Rattle.kin_motion.specs.Numbers.{is_in, IsIn}
use Rattle.kin_motion.specs.Scene.{Scene, IsReal}
use Rattle.kin_motion.specs.Chains.{is_double, is_above, is_under_segment, IsUpperChain}

-- a point of the chain is at the place of p and less, or straight above p; or p is on or below the segment of two neighbours of the chain
pub data IsCovered (s : Scene) (xs : List ℕ) (p : ℕ) : Type 0 where
  in_place : (c : ℕ) → IsIn c xs → IsTrue (is_double s p c) → IsCovered s xs p
  below : (c : ℕ) → IsIn c xs → IsTrue (is_above s p c) → IsCovered s xs p
  under : (before : List ℕ) (c d : ℕ) (behind : List ℕ) → xs ≡ before ++ c ∷ d ∷ behind → IsTrue (is_under_segment s p c d) → IsCovered s xs p

-- each point of the set is in the chain, or covered by it
abbrev pub ChainCovers : Type 0
ChainCovers = (s : Scene) (set xs : List ℕ) (p : ℕ) → IsReal s → IsUpperChain s set xs → IsIn p set → IsFalse (is_in p xs) → IsCovered s xs p
