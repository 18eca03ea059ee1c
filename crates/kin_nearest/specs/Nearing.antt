-- What nearest neighbours mean to their callers. The structure is seen as its eight orders with their candidates: a `Wedging` of kin_wedge.
use Rattle.std.specs.Prelude.{◌≡◌, ℕ, ◌+◌, ◌≤◌, Bool, ◌&&◌, nat_lt, List, count_by, sum_by}
use Rattle.kin_motion.specs.declared.keep.Keep.{Keep}
use Rattle.kin_motion.specs.declared.keep.Keep.TheVariants as keep
use Rattle.kin_motion.specs.Octants.{ListsHits}
use Rattle.kin_motion.specs.Scene.{Scene}
use Rattle.kin_list.specs.Keeping.{LeadsTo}
use Rattle.kin_list.specs.Listing.{HasMarked}
use Rattle.kin_near.specs.Candidates.{is_there}
use Rattle.kin_wedge.specs.Wedging.{Wedging, candidate_told, members_of, IsSettledWedging}

-- i is less than g and at the same place
abbrev pub is_lesser_there : Scene → ℕ → ℕ → Bool
is_lesser_there s g i = nat_lt i g && is_there s g i

-- how many live numbers are less than g and at the same place
abbrev pub count_lesser_there : Scene → ℕ → ℕ
count_lesser_there s g = count_by (is_lesser_there s g) s.live

-- so many signs may be asked for the nearest other point of i: 4 for each apex and octant whose candidate i is, and one more for each lesser number at the apex's place
pub record MayNearestAsk (k : Wedging) (s : Scene) (i asked : ℕ) : Type 0 where
  pub hits : List (ℕ × ℕ)
  pub exactly : ListsHits k.size (candidate_told k) i hits
  pub bound : asked ≤ sum_by (λ h. 4 + count_lesser_there s h.0) hits

-- ---- as the structure of a keep
-- nearest neighbours are kept
abbrev pub IsNearestKeep : Keep → Type 0
IsNearestKeep keep.Nearest = Unit {0}
IsNearestKeep _ = ⊥

-- it is for the numbers below 2^size
abbrev pub IsNearingFor : Wedging → ℕ → Keep → Type 0
IsNearingFor k size kept = (kept ≡ keep.Nearest) × (k.size ≡ size)

-- its members are these numbers, once its mark is carried out
abbrev pub HasMembers : Wedging → List ℕ → Type 0
HasMembers k set = HasMarked k.mark (members_of k) set

-- it is for as many numbers
abbrev pub StaysNearing : Wedging → Wedging → Type 0
StaysNearing old new = new.size ≡ old.size

-- it was settled in this scene, and its mark leads from the live numbers there to these
pub record FollowsNearing (k : Wedging) (s : Scene) (live : List ℕ) : Type 0 where
  pub settled : IsSettledWedging k s
  pub led : LeadsTo k.mark s.live live
