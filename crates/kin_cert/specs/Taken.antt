-- What `failing` and `take_failing` answer.
use Rattle.std.specs.Prelude.{◌≡◌, Bool, false, ℤ, pos, List, ◌∷◌, Some, Contains, ◌↔◌, ◌⊎◌, length, IsTrue}
use Rattle.std.specs.List.Sorted.{IsPermutation}
use Rattle.kin_num.specs.declared.instant.Moment.{Moment}
use Rattle.kin_num.specs.Order.{IsEarlier}
use Rattle.kin_motion.specs.Live.{Certificate}
use Rattle.kin_motion.specs.Numbers.{IsChain}
use Rattle.kin_motion.specs.Journal.{is_less_rank, form_rank}
use Rattle.kin_motion.specs.Sets.{AreDistinct}
use Rattle.kin_fail.specs.declared.owned.Owned.{Owned}
use Rattle.kin_fail.specs.Blocks.{certificate_of}
use Rattle.kin_cert.specs.Facts.{LiveFact}

-- no fact was given out and waits to be dropped
abbrev pub NoneWaits : List LiveFact → Type 0
NoneWaits live = (l : LiveFact) → Contains live l → l.waits ≡ false

-- no fact ever fails
abbrev pub NoneFails : List LiveFact → Type 0
NoneFails live = (l : LiveFact) → Contains live l → (m : Moment) → l.fails ≡ Some m → ⊥

-- a fact fails at this moment, and none earlier
pub record IsLeastFailure (live : List LiveFact) (m : Moment) : Type 0 where
  pub some : (l : LiveFact) × Contains live l × (l.fails ≡ Some m)
  pub least : (l : LiveFact) (n : Moment) → Contains live l → l.fails ≡ Some n → ¬ (IsEarlier n m)

-- no failure is at the limit or before it
abbrev pub NoneFailsUntil : List LiveFact → Moment → Type 0
NoneFailsUntil live limit = NoneFails live ⊎ ((m : Moment) × IsLeastFailure live m × IsEarlier limit m)

abbrev pub certificate_rank : Certificate → List ℤ
certificate_rank c = pos c.structure ∷ pos c.placed.part ∷ form_rank c.placed.fact.form

-- the journal lists the first before the second
abbrev pub is_taken_before : Owned → Owned → Bool
is_taken_before o p = is_less_rank (certificate_rank (certificate_of o)) (certificate_rank (certificate_of p))

-- the same fact, which waits exactly where it fails at this moment
pub record IsMarked (m : Moment) (old new : LiveFact) : Type 0 where
  pub certificate : new.certificate ≡ old.certificate
  pub fails : new.fails ≡ old.fails
  pub waits : IsTrue new.waits ↔ (old.fails ≡ Some m)

-- exactly the facts that fail at the least failure moment were given, in the journal's order, and they wait
pub record HasTaken (old new : List LiveFact) (taken : List Owned) : Type 0 where
  pub moment : Moment
  pub least : IsLeastFailure old moment
  pub each : (o : Owned) → Contains taken o ↔ ((l : LiveFact) × Contains old l × (l.fails ≡ Some moment) × (l.certificate ≡ certificate_of o))
  pub in_order : IsChain is_taken_before taken
  pub stays : (l : LiveFact) → Contains old l → (k : LiveFact) × Contains new k × IsMarked moment l k
  pub only : (k : LiveFact) → Contains new k → (l : LiveFact) × Contains old l × IsMarked moment l k
  pub count : length new ≡ length old

-- the facts that could be taken were given, each once, in any order
pub record HasGivenOut (old new : List LiveFact) (given : List Owned) : Type 0 where
  pub taken : List Owned
  pub has_taken : HasTaken old new taken
  pub reordered : IsPermutation given taken
  pub once : AreDistinct given
