-- What holds of failures as points follow their plans.
use Rattle.std.specs.Prelude.{◌≡◌, ◌⊎◌, ℕ, ◌^◌, List, length, Option, All}
use Rattle.kin_num.specs.declared.instant.Moment.{Moment}
use Rattle.kin_num.specs.Canonical.{IsCanonical}
use Rattle.kin_num.specs.Order.{IsEarlier}
use Rattle.kin_motion.specs.declared.fact.Fact.{Fact}
use Rattle.kin_motion.specs.declared.keep.Keep.{Keep}
use Rattle.kin_motion.specs.Course.{live_of}
use Rattle.kin_motion.specs.Forms.{IsAskable}
use Rattle.kin_motion.specs.Live.{IsSmallKeep}
use Rattle.kin_motion.specs.Moments.{HoldsAt}
use Rattle.kin_motion.specs.Journal.{Setting, Block, IsNextBlock, NothingFails, IsJournal}
use Rattle.kin_motion.specs.Plans.{Plan, motions_in_force, plans_scene}
use Rattle.kin_fail.specs.Failures.{IsFirstFailure}
use Rattle.kin_legs.specs.Paths.{ArePaths}

-- what is kept, and what is seen at each moment as points follow these plans
abbrev pub planned : List (Option Plan) → ℕ → List Keep → Setting
planned plans size keeps = record { size = size; keeps = keeps; scene = plans_scene plans }

-- the plans are paths, each number has a slot, and the kept directions are small
pub record ArePlannable (plans : List (Option Plan)) (size : ℕ) (keeps : List Keep) : Type 0 where
  pub paths : ArePaths plans
  pub slots : length plans ≡ 2 ^ size
  pub small : All IsSmallKeep keeps

-- a fact that holds now has a first failure, or never fails
abbrev pub PlannedFailuresExist : Type 0
PlannedFailuresExist =
    (plans : List (Option Plan)) (now : Moment) (f : Fact) → ArePaths plans → IsAskable (live_of (motions_in_force plans now)) f.form → IsCanonical now.at
    → HoldsAt (plans_scene plans) now f → (later : Option Moment) × IsFirstFailure (plans_scene plans) now f later

-- from each moment on nothing ever fails, or there is a next block
abbrev pub PlannedBlocksExist : Type 0
PlannedBlocksExist =
    (plans : List (Option Plan)) (size : ℕ) (keeps : List Keep) (now : Moment) → ArePlannable plans size keeps → IsCanonical now.at
    → NothingFails (planned plans size keeps) now ⊎ ((b : Block) × IsNextBlock (planned plans size keeps) now b)

-- from each moment up to each that is not before it there is a journal
abbrev pub PlannedJournalsExist : Type 0
PlannedJournalsExist =
    (plans : List (Option Plan)) (size : ℕ) (keeps : List Keep) (now last : Moment) → ArePlannable plans size keeps → IsCanonical now.at → IsCanonical last.at
    → ¬ (IsEarlier last now) → (bs : List Block) × IsJournal (planned plans size keeps) now last bs
