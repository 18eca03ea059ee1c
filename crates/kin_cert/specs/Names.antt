-- How an index from numbers to the facts that name them lies in memory: four slots for each id, which point at numbers. No public clause cites this module.
use Rattle.std.specs.Prelude.{◌≡◌, ◌≢◌, ℕ, ◌+◌, ◌*◌, ◌/◌, ◌<◌, ◌≤◌, cond, List, [], ◌∷◌, Option, Some, None, Contains, slice_index_or, slice_set, length, is_some, ⊤}
use Rattle.std.specs.Ordering.{nat_cmp}
use Rattle.std.specs.FinMap.{FinMap}
use Rattle.kin_num.specs.declared.instant.Moment.{Moment}
use Rattle.kin_motion.specs.declared.form.Form.{Form}
use Rattle.kin_motion.specs.Numbers.{is_in}
use Rattle.kin_motion.specs.Forms.{numbers_of, IsAskable}
use Rattle.kin_motion.specs.Scene.{Scene, Holds}
use Rattle.kin_pointers.specs.Pointing.{Pointing, AreSlotsOf}
use Rattle.kin_cert.specs.Entries.{Entry}
use Rattle.kin_cert.specs.declared.entry.Vacancy.{Vacancy}
use Rattle.kin_fail.specs.declared.owned.Owned.{Owned}
use Rattle.kin_fail.specs.Failures.{IsFirstFailure}
use Rattle.kin_cert.specs.Layout.{entry_at, live_in, fresh, timed, queued_at, IsTable}

-- at which number a slot points, if it is there and points
abbrev pub target_of : Pointing → ℕ → Option ℕ
target_of p slot = slice_index_or p.targets slot None

-- each of these numbers, or none where it comes earlier or is among those before
abbrev pub first_named : List ℕ → List ℕ → List (Option ℕ)
first_named before [] = []
first_named before (n ∷ ns) = cond (is_in n before) None (Some n) ∷ first_named (n ∷ before) ns

-- the k-th of these numbers, unless it comes earlier too
abbrev pub slot_number : List ℕ → ℕ → Option ℕ
slot_number ns k = slice_index_or (first_named [] ns) k None

-- the numbers that a form names, if there is one
abbrev pub numbers_in : Option Form → List ℕ
numbers_in None = []
numbers_in (Some f) = numbers_of f

-- the form of an entry, if there is one
abbrev pub form_in : Option Entry → Option Form
form_in None = None
form_in (Some e) = Some e.owned.fact.form

-- the numbers that the fact of an entry names
abbrev pub numbers_at : Option Entry → List ℕ
numbers_at o = numbers_in (form_in o)

-- what four slots point at
abbrev pub AreTargets : List ℕ → List (Option ℕ) → Type 0
AreTargets ns targets = (k : ℕ) → slice_index_or targets k None ≡ slot_number ns k

-- the slots of each id point at the numbers that its fact names
abbrev pub IsIndex : Pointing → List (Option Entry) → Type 0
IsIndex p slots = (id k : ℕ) → k < 4 → target_of p (4 * id + k) ≡ slot_number (numbers_at (entry_at slots id)) k

-- the slots of the first n ids do so, and no other slot points
pub record IsIndexUpTo (n : ℕ) (p : Pointing) (slots : List (Option Entry)) : Type 0 where
  pub done : (id k : ℕ) → id < n → k < 4 → target_of p (4 * id + k) ≡ slot_number (numbers_at (entry_at slots id)) k
  pub rest : (id k : ℕ) → n ≤ id → k < 4 → target_of p (4 * id + k) ≡ None

-- an index, as callers see it: at which numbers the slots point, and the ids of which the slots may point elsewhere
pub record Aimed : Type 0 where
  pub pointing : Pointing
  pub changed : List ℕ

-- the slots of each id point at the numbers that its fact names, but for those of the changed ids
abbrev pub IsIndexBut : Aimed → List (Option Entry) → Type 0
IsIndexBut a slots = (id k : ℕ) → ¬ (Contains a.changed id) → k < 4 → target_of a.pointing (4 * id + k) ≡ slot_number (numbers_at (entry_at slots id)) k

-- where there is an index, it is that of these entries, but for the changed ids
abbrev pub AreNamed : Option Aimed → List (Option Entry) → Type 0
AreNamed None slots = ⊤
AreNamed (Some a) slots = IsIndexBut a slots

-- the queue has exactly the facts that will fail and don't wait, and the index, where there is one, is theirs
pub record IsListed (slots : List (Option Entry)) (moments : FinMap nat_cmp Moment) (names : Option Aimed) : Type 0 where
  pub table : IsTable slots moments
  pub named : AreNamed names slots

-- there is an index that has the number, and no id has changed
abbrev pub IsCurrent : Option Aimed → ℕ → Type 0
IsCurrent None number = ⊥
IsCurrent (Some a) number = (a.changed ≡ []) × (number < a.pointing.numbers)

-- these are the slots that point at the number, each once
abbrev pub ListsSlotsOf : Option Aimed → ℕ → List ℕ → Type 0
ListsSlotsOf None number marks = ⊥
ListsSlotsOf (Some a) number marks = AreSlotsOf a.pointing number marks

-- the slot points at this number now, and every other one as before
pub record IsAimed (old new : Pointing) (slot : ℕ) (target : Option ℕ) : Type 0 where
  pub changed : target_of new slot ≡ target
  pub others : (s : ℕ) → s ≢ slot → target_of new s ≡ target_of old s

-- the slots of the id point at these numbers now, and those of every other one as before
pub record HasNumbers (old new : Pointing) (id : ℕ) (ns : List ℕ) : Type 0 where
  pub changed : (k : ℕ) → k < 4 → target_of new (4 * id + k) ≡ slot_number ns k
  pub others : (j k : ℕ) → j ≢ id → k < 4 → target_of new (4 * j + k) ≡ target_of old (4 * j + k)

-- the id is there now, and each that was there is
pub record IsNoted (old new : List ℕ) (id : ℕ) : Type 0 where
  pub there : Contains new id
  pub kept : (j : ℕ) → Contains old j → Contains new j

-- the id is noted and no slot points elsewhere, unless there is no index any more
abbrev pub AreKept : Option Aimed → Option Aimed → ℕ → Type 0
AreKept old None id = ⊤
AreKept None (Some b) id = ⊥
AreKept (Some a) (Some b) id = (b.pointing ≡ a.pointing) × IsNoted a.changed b.changed id

-- the fact of an entry with its owner, if there is one
abbrev pub owned_in : Option Entry → Option Owned
owned_in None = None
owned_in (Some e) = Some e.owned

-- each id has the fact that it had
abbrev pub HaveSameFacts : List (Option Entry) → List (Option Entry) → Type 0
HaveSameFacts old new = (id : ℕ) → owned_in (entry_at new id) ≡ owned_in (entry_at old id)

-- an entry of this id is as new; this is its fact, and this the vacancy that it leaves
pub record IsFreed (old : List (Option Entry)) (id : ℕ) (owned : Owned) (vacancy : Vacancy) (new : List (Option Entry)) : Type 0 where
  pub entry : Entry
  pub there : entry_at old id ≡ Some entry
  pub owned_is : owned ≡ entry.owned
  pub vacancy_is : vacancy ≡ record { id = id; is_queued = is_some (queued_at (Some entry)) }
  pub slots : new ≡ slice_set old id (Some (fresh entry.owned))

-- the id's fact may be asked for, and holds
pub record MayRenew (live : List ℕ) (s : Scene) (slots : List (Option Entry)) (id : ℕ) : Type 0 where
  pub entry : Entry
  pub there : entry_at slots id ≡ Some entry
  pub askable : IsAskable live entry.owned.fact.form
  pub holds : Holds s entry.owned.fact

-- the same fact, which doesn't wait, with its first failure seen from now
pub record IsRenewed (scene : Moment → Scene) (now : Moment) (old new : Option Entry) : Type 0 where
  pub entry : Entry
  pub was : old ≡ Some entry
  pub fails : Option Moment
  pub first : IsFirstFailure scene now entry.owned.fact fails
  pub is : new ≡ Some (timed (fresh entry.owned) fails)

-- the fact of this id is made anew, and all other entries are as they were
pub record HasRenewed (scene : Moment → Scene) (now : Moment) (old : List (Option Entry)) (id : ℕ) (new : List (Option Entry)) : Type 0 where
  pub renewed : IsRenewed scene now (entry_at old id) (entry_at new id)
  pub others : (j : ℕ) → j ≢ id → entry_at new j ≡ entry_at old j
  pub count : length (live_in new) ≡ length (live_in old)

-- the facts of the ids of these slots are made anew, and all other entries are as they were
pub record AreRenewed (scene : Moment → Scene) (now : Moment) (marks : List ℕ) (old new : List (Option Entry)) : Type 0 where
  pub renewed : (s : ℕ) → Contains marks s → IsRenewed scene now (entry_at old (s / 4)) (entry_at new (s / 4))
  pub others : (id : ℕ) → ((s : ℕ) → Contains marks s → s / 4 ≢ id) → entry_at new id ≡ entry_at old id
  pub facts : HaveSameFacts old new
  pub count : length (live_in new) ≡ length (live_in old)
