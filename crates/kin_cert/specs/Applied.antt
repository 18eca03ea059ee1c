-- What `apply` requires and does.
use Rattle.std.specs.Prelude.{◌≡◌, ℕ, ◌+◌, false, List, length, Contains, ◌⊎◌}
use Rattle.std.specs.List.{All, AllPairs}
use Rattle.kin_num.specs.declared.instant.Moment.{Moment}
use Rattle.kin_motion.specs.declared.fact.Placed.{Placed}
use Rattle.kin_motion.specs.Kinetics.{AreDistinct}
use Rattle.kin_motion.specs.Live.{owned_by}
use Rattle.kin_motion.specs.Scene.{Scene}
use Rattle.kin_motion.specs.Deltas.{Change}
use Rattle.kin_fail.specs.Failures.{IsFirstFailure}
use Rattle.kin_cert.specs.Facts.{LiveFact, IsAt}

-- the live fact has the owner and the form of this one
abbrev pub IsOf : ℕ → Placed → LiveFact → Type 0
IsOf structure p l = IsAt structure p.part p.fact.form l

-- the live fact is this one of the structure
abbrev pub Is : ℕ → Placed → LiveFact → Type 0
Is structure p l = l.certificate ≡ owned_by structure p

-- the fact is live
abbrev pub IsLiveIn : List LiveFact → ℕ → Placed → Type 0
IsLiveIn live structure p = (l : LiveFact) × Contains live l × Is structure p l

-- some fact of the list has the owner and the form of the live one
abbrev pub IsAmong : ℕ → List Placed → LiveFact → Type 0
IsAmong structure ps l = (p : Placed) × Contains ps p × IsOf structure p l

-- different part or different form
abbrev pub AreUnlike : Placed → Placed → Type 0
AreUnlike p q = p.part ≡ q.part → p.fact.form ≡ q.fact.form → ⊥

-- each dropped fact is live and listed once, and each born form is free once these are gone, and listed once in its part
pub record MayApply (structure : ℕ) (change : Change) (live : List LiveFact) : Type 0 where
  pub dropped_live : All (IsLiveIn live structure) change.dropped
  pub dropped_once : AreDistinct change.dropped
  pub born_free : (l : LiveFact) → Contains live l → IsAmong structure change.born l → IsAmong structure change.dropped l
  pub born_once : AllPairs AreUnlike change.born

-- the live fact is this born one, with its first failure
pub record IsBorn (structure : ℕ) (scene : Moment → Scene) (now : Moment) (p : Placed) (l : LiveFact) : Type 0 where
  pub is : Is structure p l
  pub fails : IsFirstFailure scene now p.fact l.fails
  pub waits_not : l.waits ≡ false

-- exactly the dropped facts are gone and exactly the born ones are new
pub record HasApplied (structure : ℕ) (change : Change) (scene : Moment → Scene) (now : Moment) (old new : List LiveFact) : Type 0 where
  pub kept : (l : LiveFact) → Contains old l → ¬ (IsAmong structure change.dropped l) → Contains new l
  pub born : (p : Placed) → Contains change.born p → (l : LiveFact) × Contains new l × IsBorn structure scene now p l
  pub only : (l : LiveFact) → Contains new l → (Contains old l × ¬ (IsAmong structure change.dropped l)) ⊎ ((p : Placed) × Contains change.born p × IsBorn structure scene now p l)
  pub count : length new + length change.dropped ≡ length old + length change.born
