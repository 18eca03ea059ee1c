-- Which items may be compared, and that their forms may be asked.
use Rattle.std.specs.Prelude.{ℤ, ℕ, List}
use Rattle.std.proofs.Common.{arith}
use Rattle.kin_motion.specs.ClosestPairs.{Near, distance_key}
use Rattle.kin_motion.specs.Extremes.{along_key}
use Rattle.kin_motion.specs.Farthest.{farness_key}
use Rattle.kin_motion.specs.Forms.{IsAskable}
use Rattle.kin_motion.specs.Live.{IsSmallDirection}
use Rattle.kin_motion.specs.Nearest.{distance_from}
use Rattle.kin_motion.specs.Numbers.{IsIn}

-- a point along a small direction, where it is live
pub record MayLieAlong (dx dy : ℤ) (live : List ℕ) (i : ℕ) : Type 0 where
  pub small : IsSmallDirection dx dy
  pub is_live : IsIn i live

pub along_askable : (dx dy : ℤ) (live : List ℕ) (i j : ℕ) → MayLieAlong dx dy live i → MayLieAlong dx dy live j → IsAskable live ((along_key dx dy).form i j)
along_askable dx dy live i j a b = record { i_live = a.is_live; j_live = b.is_live; dx_small = a.small.0; dy_small = a.small.1; off_small = omega arith }

-- a point near another, where both are live
pub record MayBeNear (i : ℕ) (live : List ℕ) (j : ℕ) : Type 0 where
  pub i_live : IsIn i live
  pub j_live : IsIn j live

pub around_askable : (i : ℕ) (live : List ℕ) (j k : ℕ) → MayBeNear i live j → MayBeNear i live k → IsAskable live ((distance_from i).form j k)
around_askable i live j k a b = (a.i_live, a.j_live, a.i_live, b.j_live)

-- both points of a pair are live
pub record AreBothLive (live : List ℕ) (p : Near) : Type 0 where
  pub i_live : IsIn p.i live
  pub j_live : IsIn p.j live

pub closeness_askable : (live : List ℕ) (p q : Near) → AreBothLive live p → AreBothLive live q → IsAskable live (distance_key.form p q)
closeness_askable live p q a b = (a.i_live, a.j_live, b.i_live, b.j_live)

pub farness_askable : (live : List ℕ) (p q : Near) → AreBothLive live p → AreBothLive live q → IsAskable live (farness_key.form p q)
farness_askable live p q a b = (a.i_live, a.j_live, b.i_live, b.j_live)
