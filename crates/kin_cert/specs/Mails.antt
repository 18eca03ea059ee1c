-- The facts of each structure that fail at one moment.
use Rattle.std.specs.Prelude.{◌≡◌, ℕ, ◌<◌, ◌≤◌, Bool, List, map, filter, nat_eq, length}
use Rattle.kin_num.specs.declared.instant.Moment.{Moment}
use Rattle.kin_motion.specs.declared.fact.Placed.{Placed}
pub use Rattle.kin_motion.specs.Letters.{told_to}
use Rattle.kin_fail.specs.declared.owned.Owned.{Owned}
use Rattle.kin_cert.specs.Facts.{LiveFact}
use Rattle.kin_cert.specs.Layout.{IsGivenUpTo}
use Rattle.kin_cert.specs.Taken.{HasGivenOut}

-- a fact that was given out, in its part
abbrev pub placed_of : Owned → Placed
placed_of o = record { part = o.part; fact = o.fact }

-- whether it is the structure k's
abbrev pub is_of : ℕ → Owned → Bool
is_of k o = nat_eq o.structure k

-- those of the structure k
abbrev pub gathered : ℕ → List Owned → List Placed
gathered k taken = map placed_of (filter (is_of k) taken)

-- so many facts that are due at the moment were given out so far, and each was put into the box of its structure
pub record IsPostedUpTo (m : Moment) (old new : List LiveFact) (boxes : List (List Placed)) (n : ℕ) : Type 0 where
  pub given : List Owned
  pub up_to : IsGivenUpTo m old new given
  pub all : n ≡ length given
  pub told : (k : ℕ) → k < length boxes → told_to boxes k ≡ gathered k given

-- so many facts were given out, all that could be taken, and each of so many structures got its own
pub record HasPosted (count : ℕ) (old new : List LiveFact) (boxes : List (List Placed)) (n : ℕ) : Type 0 where
  pub given : List Owned
  pub out : HasGivenOut old new given
  pub all : n ≡ length given
  pub told : (k : ℕ) → k < count → told_to boxes k ≡ gathered k given
  pub reached : count ≤ length boxes
