-- What two settings show alike from one moment to another, and what follows for failures.
use Rattle.std.specs.Prelude.{◌≡◌, ℕ, List, [], Option, ◌↔◌}
use Rattle.kin_num.specs.declared.instant.Moment.{Moment}
use Rattle.kin_num.specs.Canonical.{IsCanonical}
use Rattle.kin_num.specs.Order.{IsEarlier}
use Rattle.kin_motion.specs.declared.keep.Keep.{Keep}
use Rattle.kin_motion.specs.Journal.{Setting, setting_of, Block, IsNextBlock, IsJournal}
use Rattle.kin_motion.specs.Live.{Certificate, IsLiveFact}
use Rattle.kin_motion.specs.Plans.{Plan, motions_in_force}
use Rattle.kin_legs.specs.Paths.{ArePaths, NoneBeginsBetween, plans_left}
use Rattle.kin_legs.specs.Planned.{planned}

-- the same is kept, and the same is seen from the one moment to the other, both included
pub record ShowAlike (now last : Moment) (t u : Setting) : Type 0 where
  pub size : t.size ≡ u.size
  pub keeps : t.keeps ≡ u.keeps
  pub scene : (m : Moment) → IsCanonical m.at → ¬ (IsEarlier m now) → ¬ (IsEarlier last m) → t.scene m ≡ u.scene m

-- a block that comes by the last moment is the next block of both
abbrev pub AlikeBlocks : Type 0
AlikeBlocks = (t u : Setting) (now : Moment) (b : Block) → IsCanonical now.at → ShowAlike now b.moment t u → IsNextBlock t now b → IsNextBlock u now b

-- and their journals are the same
abbrev pub AlikeJournals : Type 0
AlikeJournals = (t u : Setting) (now last : Moment) (bs : List Block) → IsCanonical now.at → IsCanonical last.at → ¬ (IsEarlier last now) → ShowAlike now last t u → IsJournal t now last bs → IsJournal u now last bs

-- nothing fails from now to a moment, and the same facts are live there
pub record IsQuiet (t : Setting) (now then : Moment) : Type 0 where
  pub canonical : IsCanonical then.at
  pub not_before : ¬ (IsEarlier then now)
  pub none_fails : IsJournal t now then []
  pub same : (c : Certificate) → IsLiveFact t.size t.keeps (t.scene now) c ↔ IsLiveFact t.size t.keeps (t.scene then) c

-- what is next after a quiet time is next from its beginning on
abbrev pub QuietTimesAddNoBlock : Type 0
QuietTimesAddNoBlock = (t : Setting) (now then : Moment) (b : Block) → IsCanonical now.at → IsQuiet t now then → IsNextBlock t then b → IsNextBlock t now b

-- and the journal is the same
abbrev pub QuietTimesAddNothing : Type 0
QuietTimesAddNothing = (t : Setting) (now then last : Moment) (bs : List Block) → IsCanonical now.at → IsCanonical last.at → IsQuiet t now then → IsJournal t then last bs → IsJournal t now last bs

-- plans without the legs that are over show the same from now on
abbrev pub PastLegsShowNothing : Type 0
PastLegsShowNothing =
    (plans : List (Option Plan)) (size : ℕ) (keeps : List Keep) (now last : Moment) → ArePaths plans → IsCanonical now.at
    → ShowAlike now last (planned (plans_left now plans) size keeps) (planned plans size keeps)

-- and up to a moment before which no leg begins, the motions of now, kept for ever, show the same
abbrev pub MotionsShowAlike : Type 0
MotionsShowAlike =
    (plans : List (Option Plan)) (size : ℕ) (keeps : List Keep) (now last : Moment) → ArePaths plans → IsCanonical now.at → IsCanonical last.at → NoneBeginsBetween now last plans
    → ShowAlike now last (planned plans size keeps) (setting_of (motions_in_force plans now) size keeps)
