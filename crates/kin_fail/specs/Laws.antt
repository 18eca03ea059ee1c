-- What holds of failures. Each is promised by a function of the module `laws`.
use Rattle.std.specs.Prelude.{◌≡◌, ◌⊎◌, ℕ, ◌+◌, ◌*◌, ◌^◌, ◌≤◌, nat_eq, Bool, ℤ, List, [], ◌∷◌, ◌++◌, filter, length, slice_get, Option, Some, All, Contains}
use Rattle.kin_algebra.specs.declared.sign.Sign.TheVariants.{Zero}
use Rattle.kin_num.specs.declared.instant.Moment.{Moment}
use Rattle.kin_num.specs.declared.instant.Shape.{Shape}
use Rattle.kin_num.specs.Quadratic.{Quadratic}
use Rattle.kin_num.specs.Canonical.{IsCanonical}
use Rattle.kin_num.specs.Instants.{sign_at_instant}
use Rattle.kin_num.specs.Order.{IsEarlier}
use Rattle.kin_instant.specs.Places.{IsZeroPolynomial}
use Rattle.kin_motion.specs.declared.fact.Fact.{Fact}
use Rattle.kin_motion.specs.declared.keep.Keep.{Keep}
use Rattle.kin_motion.specs.declared.keep.Keep.TheVariants.{Order}
use Rattle.kin_motion.specs.Course.{Course, AreSlow, live_of}
use Rattle.kin_motion.specs.Forms.{IsAskable, polynomial_of}
use Rattle.kin_motion.specs.Scene.{scene_at}
use Rattle.kin_motion.specs.Live.{IsSmallDirection, IsSmallKeep}
use Rattle.kin_motion.specs.Moments.{HoldsAt, FailsFirst}
use Rattle.kin_motion.specs.Journal.{setting_of, Failure, Block, IsNextBlock, NothingFails, IsJournal}
use Rattle.kin_fail.specs.Failures.{IsFirstFailure}

-- the instant is a root of a polynomial that isn't 0 everywhere
pub record IsProperRoot (p : Quadratic) (w : Shape) : Type 0 where
  pub root : sign_at_instant p w ≡ Zero
  pub some : ¬ (IsZeroPolynomial p)

-- a fact fails first at a root of its form's polynomial, or just after one
abbrev pub FailuresAreAtRoots : Type 0
FailuresAreAtRoots =
    (ms : List (Option Course)) (now later : Moment) (f : Fact) → AreSlow ms → IsAskable (live_of ms) f.form → IsCanonical now.at
    → FailsFirst (scene_at ms) now later f → IsProperRoot (polynomial_of ms f.form) later.at

-- the next block is at or just after a root of the polynomial of each of its failures
abbrev pub BlocksAreAtRoots : Type 0
BlocksAreAtRoots =
    (ms : List (Option Course)) (size : ℕ) (keeps : List Keep) (now : Moment) (b : Block) (f : Failure) → AreSlow ms → All IsSmallKeep keeps → IsCanonical now.at
    → IsNextBlock (setting_of ms size keeps) now b → Contains b.failures f → IsProperRoot (polynomial_of ms f.was.placed.fact.form) b.moment.at

-- a fact that holds now has a first failure, or never fails
abbrev pub FirstFailuresExist : Type 0
FirstFailuresExist =
    (ms : List (Option Course)) (now : Moment) (f : Fact) → AreSlow ms → IsAskable (live_of ms) f.form → IsCanonical now.at
    → HoldsAt (scene_at ms) now f → (later : Option Moment) × IsFirstFailure (scene_at ms) now f later

-- the motions are slow, each number has a slot, and the kept directions are small
pub record IsProper (ms : List (Option Course)) (size : ℕ) (keeps : List Keep) : Type 0 where
  pub slow : AreSlow ms
  pub slots : length ms ≡ 2 ^ size
  pub small : All IsSmallKeep keeps

-- from each moment on nothing ever fails, or there is a next block
abbrev pub NextBlocksExist : Type 0
NextBlocksExist =
    (ms : List (Option Course)) (size : ℕ) (keeps : List Keep) (now : Moment) → IsProper ms size keeps → IsCanonical now.at
    → NothingFails (setting_of ms size keeps) now ⊎ ((b : Block) × IsNextBlock (setting_of ms size keeps) now b)

-- from each moment up to each that is not before it there is a journal
abbrev pub JournalsExist : Type 0
JournalsExist =
    (ms : List (Option Course)) (size : ℕ) (keeps : List Keep) (now last : Moment) → IsProper ms size keeps → IsCanonical now.at → IsCanonical last.at
    → ¬ (IsEarlier last now) → (bs : List Block) × IsJournal (setting_of ms size keeps) now last bs

-- whether the failure is of the structure of that number
abbrev pub is_of : ℕ → Failure → Bool
is_of structure f = nat_eq f.was.structure structure

-- the failures of a structure, block after block
abbrev pub failures_of : ℕ → List Block → List Failure
failures_of structure [] = []
failures_of structure (b ∷ bs) = filter (is_of structure) b.failures ++ failures_of structure bs

-- while the motions stay, a kept order of n points has at most n*(n - 1) failures between two moments
abbrev pub OrderFailuresAreFew : Type 0
OrderFailuresAreFew =
    (ms : List (Option Course)) (size : ℕ) (keeps : List Keep) (now last : Moment) (bs : List Block) (structure : ℕ) (dx dy : ℤ)
    → AreSlow ms → IsSmallDirection dx dy → IsCanonical now.at → slice_get keeps structure ≡ Some (Order dx dy)
    → IsJournal (setting_of ms size keeps) now last bs
    → let n = length (live_of ms) in length (failures_of structure bs) + n ≤ n * n
