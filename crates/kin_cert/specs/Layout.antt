-- How a table lies in memory: a roll of entries by id, and a queue of ids. No public clause cites this module.
use Rattle.std.specs.Prelude.{◌≡◌, ℕ, Bool, true, false, cond, not, ℤ, List, [], ◌∷◌, Option, Some, None, Contains, ◌↔◌, ◌⊎◌, count_by, IsTrue, ◌≢◌, length, slice_index_or, slice_set, is_some, ◌+◌, ◌≤◌}
use Rattle.std.specs.List.{AllPairs}
use Rattle.std.specs.Ordering.{nat_cmp}
use Rattle.std.specs.FinMap as map
use Rattle.std.specs.FinMap.{FinMap}
use Rattle.kin_num.specs.declared.instant.Moment.{Moment}
use Rattle.kin_num.specs.Order.{IsEarlier}
use Rattle.kin_motion.specs.declared.fact.Fact.{Fact}
use Rattle.kin_motion.specs.declared.fact.Placed.{Placed}
use Rattle.kin_motion.specs.Scene.{Scene}
use Rattle.kin_cert.specs.Entries.{Entry}
use Rattle.kin_cert.specs.declared.entry.Vacancy.{Vacancy}
use Rattle.kin_fail.specs.declared.owned.Owned.{Owned}
use Rattle.kin_fail.specs.Blocks.{certificate_of}
use Rattle.kin_cert.specs.Facts.{Facts, LiveFact, NoneAlike}
use Rattle.kin_cert.specs.declared.change.Pending.{Pending}
use Rattle.kin_motion.specs.Deltas.{Change}
use Rattle.kin_fail.specs.Failures.{IsFirstFailure}
use Rattle.kin_cert.specs.Applied.{IsBorn, IsOf, HasApplied}
use Rattle.kin_cert.specs.Cost.{IsEnough, TakesAtMost, is_ungiven}
use Rattle.kin_fail.specs.Rank.{padded_rank, owned_rank}

abbrev pub live_fact : Entry → LiveFact
live_fact e = record { certificate = certificate_of e.owned; fails = e.fails; waits = e.is_waiting }

abbrev pub live_in : List (Option Entry) → List LiveFact
live_in [] = []
live_in (None ∷ slots) = live_in slots
live_in (Some e ∷ slots) = live_fact e ∷ live_in slots

abbrev pub entry_rank : Entry → List ℤ
entry_rank e = padded_rank e.owned.structure e.owned.part e.owned.fact.form

-- when the queue has the entry
abbrev pub queued_at : Option Entry → Option Moment
queued_at None = None
queued_at (Some e) = cond e.is_waiting None e.fails

-- the map with this moment, if there is one, at the id
abbrev pub with : FinMap nat_cmp Moment → ℕ → Option Moment → FinMap nat_cmp Moment
with moments id None = moments
with moments id (Some m) = map.insert moments id m

-- the fact in a part of a structure, with its owner
abbrev pub held : ℕ → Placed → Owned
held s p = record { structure = s; part = p.part; fact = p.fact }

-- the entry of an id, if there is one
abbrev pub entry_at : List (Option Entry) → ℕ → Option Entry
entry_at slots id = slice_index_or slots id None

-- a fact that never fails as yet
abbrev pub fresh : Owned → Entry
fresh o = record { owned = o; fails = None; is_waiting = false }

-- the entry after it is given out
abbrev pub waiting : Entry → Entry
waiting e = record { owned = e.owned; fails = e.fails; is_waiting = true }

-- the entry after its first failure is noted
abbrev pub timed : Entry → Option Moment → Entry
timed e fails = record { owned = e.owned; fails = fails; is_waiting = e.is_waiting }

-- no owner's form has two ids
abbrev pub NoneTwice : List (Option Entry) → Type 0
NoneTwice slots = (i j : ℕ) (e f : Entry) → entry_at slots i ≡ Some e → entry_at slots j ≡ Some f → entry_rank e ≡ entry_rank f → i ≡ j

-- the new slots have this at the id, and every other id keeps what it had
pub record HasSlot (old new : List (Option Entry)) (id : ℕ) (slot : Option Entry) : Type 0 where
  pub changed : entry_at new id ≡ slot
  pub others : (j : ℕ) → j ≢ id → entry_at new j ≡ entry_at old j

-- the entry of the id has this rank
abbrev pub HasRank : List (Option Entry) → ℕ → List ℤ → Type 0
HasRank slots id rank = (e : Entry) × (entry_at slots id ≡ Some e) × (entry_rank e ≡ rank)

-- an entry of this rank is there, and this holds of it
abbrev pub IsFoundAt : List (Option Entry) → List ℤ → (Entry → Type 0) → Type 0
IsFoundAt slots rank which = (id : ℕ) × (e : Entry) × (entry_at slots id ≡ Some e) × (entry_rank e ≡ rank) × which e

-- an entry of this rank is there
abbrev pub IsThere : List (Option Entry) → List ℤ → Type 0
IsThere slots rank = (id : ℕ) × HasRank slots id rank

abbrev pub IsNotFound : List (Option Entry) → List ℤ → Type 0
IsNotFound slots rank = (id : ℕ) (e : Entry) → entry_at slots id ≡ Some e → entry_rank e ≢ rank

-- the id of the entry of this rank, and whether the queue has it
pub record IsVacancyOf (slots : List (Option Entry)) (rank : List ℤ) (vacancy : Vacancy) : Type 0 where
  pub entry : Entry
  pub there : entry_at slots vacancy.id ≡ Some entry
  pub ranked : entry_rank entry ≡ rank
  pub queued : vacancy.is_queued ≡ is_some (queued_at (Some entry))

-- the fact is where that of this rank was, and no other entry has its owner and form
pub record IsTakenOver (old : List (Option Entry)) (rank : List ℤ) (o : Owned) (vacancy : Vacancy) (new : List (Option Entry)) : Type 0 where
  pub vacancy_of : IsVacancyOf old rank vacancy
  pub slots : new ≡ slice_set old vacancy.id (Some (fresh o))
  pub free : (j : ℕ) (e : Entry) → entry_at old j ≡ Some e → entry_rank e ≡ owned_rank o → j ≡ vacancy.id
  pub once : NoneTwice old

-- the queue has exactly the ids of the facts that will fail and don't wait
abbrev pub IsTable : List (Option Entry) → FinMap nat_cmp Moment → Type 0
IsTable slots moments = (id : ℕ) → map.get moments id ≡ queued_at (entry_at slots id)

-- the fact fails at this moment and was not given out
pub record IsDueAt (l : LiveFact) (m : Moment) : Type 0 where
  pub fails : l.fails ≡ Some m
  pub waits_not : l.waits ≡ false

-- the least moment at which a fact is due
pub record IsDue (live : List LiveFact) (m : Moment) : Type 0 where
  pub some : (l : LiveFact) × Contains live l × IsDueAt l m
  pub least : (l : LiveFact) (n : Moment) → Contains live l → IsDueAt l n → ¬ (IsEarlier n m)

abbrev pub NoneDue : List LiveFact → Type 0
NoneDue live = (l : LiveFact) (m : Moment) → Contains live l → IsDueAt l m → ⊥

abbrev pub due_count : List LiveFact → ℕ
due_count live = count_by (λ l. not l.waits) live

-- a fact that was due at the least moment waits, and all others are as they were
pub record HasGiven (old new : List LiveFact) (c : LiveFact) (m : Moment) : Type 0 where
  pub there : Contains old c
  pub due : IsDueAt c m
  pub least : (l : LiveFact) (n : Moment) → Contains old l → IsDueAt l n → ¬ (IsEarlier n m)
  pub exactly : (l : LiveFact) → Contains new l ↔ ((Contains old l × ¬ (l ≡ c)) ⊎ (l ≡ record c { waits = true }))

-- a born fact was added to all others
pub record HasBorn (structure : ℕ) (scene : Moment → Scene) (now : Moment) (p : Placed) (old new : List LiveFact) : Type 0 where
  pub fact : LiveFact
  pub is_born : IsBorn structure scene now p fact
  pub exactly : (l : LiveFact) → Contains new l ↔ (Contains old l ⊎ (l ≡ fact))

-- a born fact replaced a dropped one, and no other has its owner and form
pub record HasReplaced (structure : ℕ) (scene : Moment → Scene) (now : Moment) (dropped born : Placed) (old new : List LiveFact) : Type 0 where
  pub fact : LiveFact
  pub is_born : IsBorn structure scene now born fact
  pub free : (l : LiveFact) → Contains old l → IsOf structure born l → IsOf structure dropped l
  pub exactly : (l : LiveFact) → Contains new l ↔ ((Contains old l × ¬ (IsOf structure dropped l)) ⊎ (l ≡ fact))
  pub count : length new ≡ length old
  pub once : NoneAlike old

-- a born fact replaced a dropped one, or nothing was done; the counter was at these two numbers
pub record HasTriedToReplace (structure : ℕ) (scene : Moment → Scene) (now : Moment) (dropped born : Placed) (is : Bool) (old new : Facts) (old_steps new_steps : ℕ) : Type 0 where
  pub yes : IsTrue is → HasReplaced structure scene now dropped born old.live new.live
  pub no : ¬ (IsTrue is) → new ≡ old
  pub made : new.made ≡ old.made
  pub cost : IsTrue is → TakesAtMost (length old.live) (λ r. cond (is_ungiven structure old.live dropped) r 0 + (r + 1)) old_steps new_steps
  pub idle : ¬ (IsTrue is) → new_steps ≡ old_steps

-- the first failure of a new fact is noted, and the queue has it
pub record IsTimed (scene : Moment → Scene) (now : Moment) (o : Owned) (id : ℕ) (slots : List (Option Entry)) (moments : FinMap nat_cmp Moment) (slots' : List (Option Entry)) (moments' : FinMap nat_cmp Moment) : Type 0 where
  pub fails : Option Moment
  pub first : IsFirstFailure scene now o.fact fails
  pub slots_are : slots' ≡ slice_set slots id (Some (timed (fresh o) fails))
  pub moments_are : moments' ≡ with moments id fails

-- the same, whatever the owner of the new fact of the id
abbrev pub IsTimedFact : (Moment → Scene) → Moment → Fact → ℕ → List (Option Entry) → FinMap nat_cmp Moment → List (Option Entry) → FinMap nat_cmp Moment → Type 0
IsTimedFact scene now fact id slots moments slots' moments' = (o : Owned) → entry_at slots id ≡ Some (fresh o) → o.fact ≡ fact → IsTimed scene now o id slots moments slots' moments'

-- what is dropped and what is born
abbrev pub change_of : Pending → Change
change_of p = record { dropped = p.dropped.now; born = p.born.now }

-- applying the rest of a change completes the whole
abbrev pub IsLeftToApply : ℕ → (Moment → Scene) → Moment → Change → List LiveFact → Change → List LiveFact → Type 0
IsLeftToApply structure scene now all old rest new = (after : List LiveFact) → HasApplied structure rest scene now new after → HasApplied structure all scene now old after

-- the facts that are gone and those that are new are counted off both lists of the change
pub record AreCounted (all : Change) (old : List LiveFact) (rest : Change) (new : List LiveFact) : Type 0 where
  pub live : length new + length all.dropped + length rest.born ≡ length old + length all.born + length rest.dropped
  pub fewer : length rest.dropped ≤ length all.dropped

-- some facts that fail at the moment were given out, and the others are as they were
pub record IsGivenUpTo (m : Moment) (old new : List LiveFact) (taken : List Owned) : Type 0 where
  pub given : (o : Owned) → Contains taken o → (l : LiveFact) × Contains new l × IsTrue l.waits × (l.certificate ≡ certificate_of o)
  pub each : (l : LiveFact) → Contains new l → IsTrue l.waits → (o : Owned) × Contains taken o × (l.certificate ≡ certificate_of o)
  pub once : AllPairs (λ o p. owned_rank o ≢ owned_rank p) taken
  pub at_moment : (l : LiveFact) → Contains new l → IsTrue l.waits → l.fails ≡ Some m
  pub stays : (l : LiveFact) → Contains old l → (k : LiveFact) × Contains new k × (k.certificate ≡ l.certificate) × (k.fails ≡ l.fails)
  pub only : (k : LiveFact) → Contains new k → (l : LiveFact) × Contains old l × (k.certificate ≡ l.certificate) × (k.fails ≡ l.fails)
  pub least : (l : LiveFact) (n : Moment) → Contains new l → IsDueAt l n → ¬ (IsEarlier n m)

-- what was counted, and what is left to do, cost no more than all that there was to do
abbrev pub IsPaid : ℕ → (ℕ → ℕ) → (ℕ → ℕ) → ℕ → ℕ → Type 0
IsPaid n all left old new = (r : ℕ) → IsEnough n r → new + left r ≤ old + all r
