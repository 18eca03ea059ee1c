-- A tournament of points along a direction, which are in the slots of their numbers.
use Rattle.std.specs.Prelude.{◌≡◌, ℕ, ◌+◌, ◌*◌, ◌^◌, ◌≤◌, List, [], ◌∷◌, length, Contains, IsTrue, IsFalse}
use Rattle.kin_motion.specs.declared.fact.Placed.{Placed}
use Rattle.kin_motion.specs.declared.keep.Keep.{Keep}
use Rattle.kin_motion.specs.declared.keep.Keep.TheVariants as keep
use Rattle.kin_motion.specs.Deltas.{Change}
use Rattle.kin_motion.specs.Extremes.{IsExtremeFact, along_key, point_slots}
use Rattle.kin_motion.specs.Forms.{names}
use Rattle.kin_motion.specs.Numbers.{IsIn}
use Rattle.kin_motion.specs.Scene.{Scene}
use Rattle.kin_motion.specs.Sets.{ListsExactly}
use Rattle.kin_motion.specs.Spending.{IsChangeCount}
use Rattle.kin_tourney.specs.declared.along.Along.{Along}
use Rattle.kin_tourney.specs.Tournament.{Tournament, IsSettled, is_above_mark, mark_count}

-- the numbers that the item of a slot names: the point itself
abbrev pub point_names : ℕ → List ℕ
point_names i = i ∷ []

-- an extreme point is kept
abbrev pub IsExtremeKeep : Keep → Type 0
IsExtremeKeep (keep.Extreme dx dy) = Unit {0}
IsExtremeKeep _ = ⊥

-- it is the tournament of the keep, with slots for the numbers below 2^size
abbrev pub IsTournamentFor : Tournament Along ℕ → ℕ → Keep → Type 0
IsTournamentFor t size kept = (kept ≡ keep.Extreme t.key.dx t.key.dy) × (t.size ≡ size)

-- each of these numbers is in its slot, and nothing else, and each slot can be marked
pub record HasPoints (t : Tournament Along ℕ) (set : List ℕ) : Type 0 where
  pub whole : IsTrue t.whole
  pub slots : t.slots ≡ point_slots t.size set
  pub room : length t.marked ≡ 2 ^ t.size

-- the key, the size, the slots and the room for marks are the same
pub record StaysTournament (old new : Tournament Along ℕ) : Type 0 where
  pub key : new.key ≡ old.key
  pub size : new.size ≡ old.size
  pub slots : new.slots ≡ old.slots
  pub room : length new.marked ≡ length old.marked

-- winners and facts are those of the points along the direction
abbrev pub IsSettledAlong : Tournament Along ℕ → Scene → Type 0
IsSettledAlong t s = IsSettled point_names (along_key t.key.dx t.key.dy) t s

-- one sign a level for each marked slot and each failed fact
abbrev pub SpendsPoints : Tournament Along ℕ → Tournament Along ℕ → List Placed → Change → Change → ℕ → ℕ → Type 0
SpendsPoints old new failed out out' before after = after ≤ before + old.size * (mark_count old.marked + length failed)

-- Its facts are those of this scene. At most one slot is marked, and only where one number has entered or left since. A fact that isn't above a marked slot names no number that has left.
pub record FollowsPoints (t : Tournament Along ℕ) (s : Scene) (live : List ℕ) : Type 0 where
  pub exact : ListsExactly t.facts (IsExtremeFact t.size s t.key.dx t.key.dy)
  pub marked : IsChangeCount s.live live (mark_count t.marked)
  pub stays : (p : Placed) (i : ℕ) → Contains t.facts p → IsFalse (is_above_mark t.size t.marked p.part) → IsTrue (names p.fact.form i) → IsIn i s.live → IsIn i live
