-- What comes next as points follow their plans: live facts fail, or a leg begins.
use Rattle.std.specs.Prelude.{◌≡◌, ℕ, List, [], Option, Some, None}
use Rattle.kin_num.specs.declared.instant.Moment.{Moment}
use Rattle.kin_num.specs.Canonical.{IsCanonical}
use Rattle.kin_num.specs.Order.{IsEarlier}
use Rattle.kin_motion.specs.declared.keep.Keep.{Keep}
use Rattle.kin_motion.specs.Journal.{Block, IsNextBlock, IsJournal, NothingFails}
use Rattle.kin_motion.specs.Plans.{Leg, Plan}
use Rattle.kin_legs.specs.Paths.{IsLegOf, NoneBeginsBetween, beginning}
use Rattle.kin_legs.specs.Planned.{ArePlannable, planned}

-- the points with their plans, what is kept, and the moment from which it is seen
pub record View : Type 0 where
  pub plans : List (Option Plan)
  pub size : ℕ
  pub keeps : List Keep
  pub now : Moment

-- a block of failures; a leg that begins where nothing fails; or nothing, ever
pub data Next : Type 0 where
  block : Block → Next
  leg : Moment → Next
  nothing : Next

-- it is the next block, and no leg begins sooner
pub record IsBlockFirst (v : View) (b : Block) : Type 0 where
  pub next : IsNextBlock (planned v.plans v.size v.keeps) v.now b
  pub first : NoneBeginsBetween v.now b.moment v.plans

-- a leg begins then, none begins sooner, and nothing fails up to there
pub record IsLegFirst (v : View) (m : Moment) : Type 0 where
  pub leg : Leg
  pub of_these : IsLegOf v.plans leg
  pub begins : m ≡ beginning leg
  pub canonical : IsCanonical m.at
  pub later : IsEarlier v.now m
  pub first : NoneBeginsBetween v.now m v.plans
  pub none_fails : IsJournal (planned v.plans v.size v.keeps) v.now m []

-- no live fact ever fails, and no leg begins any more
pub record IsAtRest (v : View) : Type 0 where
  pub none_fails : NothingFails (planned v.plans v.size v.keeps) v.now
  pub none_begins : (leg : Leg) → IsLegOf v.plans leg → ¬ (IsEarlier v.now (beginning leg))

-- what comes next
abbrev pub IsNext : View → Next → Type 0
IsNext v (block b) = IsBlockFirst v b
IsNext v (leg m) = IsLegFirst v m
IsNext v nothing = IsAtRest v

-- when it comes, if ever
abbrev pub comes_at : Next → Option Moment
comes_at (block b) = Some b.moment
comes_at (leg m) = Some m
comes_at nothing = None

-- one thing comes next
abbrev pub OneNext : Type 0
OneNext = (v : View) (n k : Next) → IsCanonical v.now.at → IsNext v n → IsNext v k → n ≡ k

-- and something always does
abbrev pub NextsExist : Type 0
NextsExist = (v : View) → ArePlannable v.plans v.size v.keeps → IsCanonical v.now.at → (n : Next) × IsNext v n
