-- With what a tracker starts.
use Rattle.std.specs.Prelude.{ℕ, ◌+◌, ◌<◌, ◌≤◌, List, length, take}
use Rattle.kin_motion.specs.declared.keep.Keep.{Keep}
use Rattle.kin_tracker.specs.declared.refusal.Refusal.{Refusal}
use Rattle.kin_tracker.specs.declared.refusal.Refusal.TheVariants.{BadNumber, BadKeep, NoMemory}
use Rattle.kin_world.specs.Worlds.{AreKeepable}

-- those before this place may be kept, and with the one at it no longer
pub record IsFirstBad (keeps : List Keep) (place : ℕ) : Type 0 where
  pub there : place < length keeps
  pub before : AreKeepable (take place keeps)
  pub bad : ¬ (AreKeepable (take (place + 1) keeps))

-- a size that a world may have
pub record IsSize (size : ℕ) : Type 0 where
  pub low : 1 ≤ size
  pub high : size ≤ 12

-- a tracker may have this size, and keep these
abbrev pub MayStart : ℕ → List Keep → Type 0
MayStart size keeps = IsSize size × AreKeepable keeps

-- why there is none
abbrev pub IsRefusedStart : ℕ → List Keep → Refusal → Type 0
IsRefusedStart size keeps BadNumber = ¬ (IsSize size)
IsRefusedStart size keeps (BadKeep place) = IsSize size × IsFirstBad keeps place
IsRefusedStart size keeps NoMemory = MayStart size keeps
IsRefusedStart size keeps _ = ⊥
