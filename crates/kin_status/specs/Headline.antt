-- What a run writes and answers: the headline.
use Rattle.std.specs.Prelude.{◌≡◌, ℕ, ◌+◌, ◌≤◌, ◌^◌, Bool, true, List, [], length, Option, Some, None, ◌⊎◌}
use Rattle.std.specs.Io.KnownBytes.{Consumes, Appends, IsAtEnd}
use Rattle.kin_script.specs.Inputs.{IsBadTextOf, IsTextOf}
use Rattle.kin_status.specs.declared.status.Status.{Status}
use Rattle.kin_status.specs.declared.status.Status.TheVariants as status
use Rattle.kin_status.specs.declared.status.Side.TheVariants.{Read, Write}
use Rattle.kin_status.specs.declared.stop.Stop.{Stop}
use Rattle.kin_status.specs.declared.stop.Stop.TheVariants as stop
use Rattle.kin_status.specs.Written.{IsFront}

-- the text of an input, with the status that it has where all of it is written
abbrev pub IsAnswer : List ℕ → Status → List ℕ → Type 0
IsAnswer input status.Done text = IsTextOf input text None
IsAnswer input (status.Command line refusal) text = IsTextOf input text (Some (line, refusal))
IsAnswer input (status.Script line) text = IsBadTextOf input line text
IsAnswer input (status.Fault side) text = ⊥
IsAnswer input status.TooLong text = ⊥
IsAnswer input status.Words text = ⊥
IsAnswer input status.NoMemory text = ⊥
IsAnswer input status.Differs text = ⊥
IsAnswer input status.Unsplit text = ⊥

-- a prefix of the input's text, whichever that is
abbrev pub IsCut : List ℕ → List ℕ → Type 0
IsCut input written = (answer : Status) (text : List ℕ) → IsAnswer input answer text → IsFront written text

-- what was written, by the status, of an input that was taken whole
abbrev pub Writes : List ℕ → Status → List ℕ → Type 0
Writes input (status.Fault Read) written = ⊥
Writes input (status.Fault Write) written = IsCut input written
Writes input status.NoMemory written = IsCut input written
Writes input answer written = IsAnswer input answer written

-- the input was taken up to its end
pub record TakesWhole (left : Option (List ℕ)) (ended : Bool) (input : List ℕ) : Type 0 where
  pub end : ended ≡ true
  pub nothing_left : IsAtEnd left
  pub within : length input ≤ 2 ^ 20

-- what was written with what was taken, by the status
abbrev pub Outcome : Option (List ℕ) → Bool → List ℕ → Status → List ℕ → Type 0
Outcome left ended input (status.Fault Read) written = (written ≡ []) × (length input ≤ 2 ^ 20)
Outcome left ended input status.TooLong written = (written ≡ []) × (length input ≡ 2 ^ 20 + 1)
Outcome left ended input status.NoMemory written = (written ≡ []) ⊎ (TakesWhole left ended input × Writes input status.NoMemory written)
Outcome left ended input status.Words written = ⊥
Outcome left ended input answer written = TakesWhole left ended input × Writes input answer written

-- The headline: the bytes that were taken, the bytes that were written, and how they belong together.
pub record Answers (left_before left_now : Option (List ℕ)) (ended : Bool) (held_before held_now : Option (List ℕ)) (answer : Status) : Type 0 where
  pub input : List ℕ
  pub written : List ℕ
  pub taken : Consumes left_before left_now input
  pub appended : Appends held_before held_now written
  pub outcome : Outcome left_now ended input answer written

-- the run was broken off by a fault of the outside or by want of memory
abbrev pub IsBrokenOff : Status → Type 0
IsBrokenOff status.Done = ⊥
IsBrokenOff (status.Command line refusal) = ⊥
IsBrokenOff (status.Script line) = ⊥
IsBrokenOff (status.Fault side) = Unit {0}
IsBrokenOff status.TooLong = ⊥
IsBrokenOff status.Words = ⊥
IsBrokenOff status.NoMemory = Unit {0}
IsBrokenOff status.Differs = ⊥
IsBrokenOff status.Unsplit = ⊥

-- the status of a run that was broken off
abbrev pub status_of_stop : Stop → Status
status_of_stop stop.Fault = status.Fault Write
status_of_stop stop.NoMemory = status.NoMemory

-- an input has one text, and one status with it
abbrev pub OneAnswer : Type 0
OneAnswer = (input x y : List ℕ) (a b : Status) → IsAnswer input a x → IsAnswer input b y → (a ≡ b) × (x ≡ y)

-- every input has a text, and a status with it
abbrev pub TextsExist : Type 0
TextsExist = (input : List ℕ) → (answer : Status) × (text : List ℕ) × IsAnswer input answer text
