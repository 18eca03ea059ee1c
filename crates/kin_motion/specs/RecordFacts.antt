-- The facts in the records of a merge, and how many facts change between two of its states.
use Rattle.std.specs.Prelude.{◌≡◌, ℕ, ◌+◌, ◌*◌, ◌≤◌, List, length, Contains, ◌↔◌, ◌⊎◌}
use Rattle.kin_motion.specs.declared.form.Form.{Form}
use Rattle.kin_motion.specs.declared.fact.Fact.{Fact}
use Rattle.kin_motion.specs.declared.fact.Placed.{Placed}
use Rattle.kin_motion.specs.Sets.{ListsExactly}
use Rattle.kin_motion.specs.Deltas.{Change}
use Rattle.kin_motion.specs.Scene.{Scene, placed_at}
use Rattle.kin_motion.specs.Kinetics.{HasChanged}
use Rattle.kin_motion.specs.Merges.{Breakpoint, IsListedForm}
use Rattle.kin_motion.specs.Records.{Record, Record.{Inner, LeftEnd, RightEnd}, records_of, IsTouchedCount}

-- a state of a merge, right or not: what is seen, both chains, and a list of breakpoints
pub record MergeState : Type 0 where
  pub scene : Scene
  pub a : List ℕ
  pub b : List ℕ
  pub breakpoints : List Breakpoint

-- a fact of the merge in this state
pub record IsFactIn (m : MergeState) (part : ℕ) (p : Placed) : Type 0 where
  pub form : Form
  pub listed : IsListedForm m.scene m.a m.b m.breakpoints form
  pub fact : p ≡ placed_at m.scene part form

-- a fact that one state has and the other has not
abbrev pub IsChanged : MergeState → MergeState → ℕ → Placed → Type 0
IsChanged old new part p = (IsFactIn old part p × ¬ (IsFactIn new part p)) ⊎ (IsFactIn new part p × ¬ (IsFactIn old part p))

-- the records of the merge in this state
abbrev pub records_in : MergeState → List Record
records_in m = records_of m.scene m.a m.b m.breakpoints

-- the facts of a record
abbrev pub facts_of_record : Record → List Fact
facts_of_record (Inner e fs) = fs
facts_of_record (LeftEnd a b fs) = fs
facts_of_record (RightEnd a b fs) = fs

-- a fact of one of the records
abbrev pub IsRecorded : List Record → Fact → Type 0
IsRecorded rs f = (r : Record) × Contains rs r × Contains (facts_of_record r) f

-- the facts of a merge are those of its records
abbrev pub FactsAreRecorded : Type 0
FactsAreRecorded = (m : MergeState) (part : ℕ) (p : Placed) → IsFactIn m part p ↔ ((p.part ≡ part) × IsRecorded (records_in m) p.fact)

-- at most three facts change for each touched record
abbrev pub FewFactsChange : Type 0
FewFactsChange = (old new : MergeState) (part n : ℕ) (changed : List Placed)
    → ListsExactly changed (IsChanged old new part) → IsTouchedCount (records_in old) (records_in new) n → length changed ≤ 3 * n

-- and at most so many are reported, dropped and born together
abbrev pub FewFactsAreReported : Type 0
FewFactsAreReported = (old new : MergeState) (part n : ℕ) (old_facts new_facts : List Placed) (before after : Change)
    → ListsExactly old_facts (IsFactIn old part) → ListsExactly new_facts (IsFactIn new part) → HasChanged old_facts new_facts before after
    → IsTouchedCount (records_in old) (records_in new) n
    → length after.dropped + length after.born ≤ length before.dropped + length before.born + 3 * n
