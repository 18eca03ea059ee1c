-- The numbers of the statuses, as the header has them.
use Rattle.std.specs.Prelude.{◌≡◌, ℕ}
use Rattle.kin_tracker.specs.declared.refusal.Refusal.TheVariants.{Lost, BadNumber, BadKeep, NotKept, Taken, Absent}
use Rattle.kin_tracker.specs.declared.refusal.Refusal.TheVariants.{NoRoot, Past, Planned, NotWhole, OutOfBounds, NoMemory}
use Rattle.kin_c.specs.declared.status.Status.{Status}
use Rattle.kin_c.specs.declared.status.Status.TheVariants.{Done, NoWorld, Refused, TooSmall}

-- the number of a status
abbrev pub code_of : Status → ℕ
code_of Done = 0
code_of NoWorld = 1
code_of (Refused Lost) = 2
code_of (Refused BadNumber) = 3
code_of (Refused (BadKeep place)) = 4
code_of (Refused NotKept) = 5
code_of (Refused Taken) = 6
code_of (Refused Absent) = 7
code_of (Refused NoRoot) = 8
code_of (Refused Past) = 9
code_of (Refused Planned) = 10
code_of (Refused NotWhole) = 11
code_of (Refused OutOfBounds) = 12
code_of (Refused NoMemory) = 13
code_of TooSmall = 14

-- the number is that of a status for which this holds
abbrev pub Answers : ℕ → (Status → Type 0) → Type 0
Answers number holds = (status : Status) × (number ≡ code_of status) × holds status
