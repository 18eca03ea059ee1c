-- What the word check writes and answers.
use Rattle.std.specs.Prelude.{◌≡◌, ◌≢◌, ◌+◌, ◌≤◌, ◌^◌, ℕ, Bool, List, [], length, codes, Option}
use Rattle.std.specs.Io.KnownBytes.{Consumes, Appends}
use Rattle.kin_check.specs.Splits.{IsTrueClaim, IsUnsplit}
use Rattle.kin_check.specs.declared.verdict.Verdict.{Verdict}
use Rattle.kin_check.specs.declared.verdict.Verdict.TheVariants as verdict
use Rattle.kin_status.specs.Headline.{TakesWhole}
use Rattle.kin_status.specs.Written.{IsFront}
use Rattle.kin_status.specs.declared.status.Status.{Status}
use Rattle.kin_status.specs.declared.status.Status.TheVariants as status
use Rattle.kin_status.specs.declared.status.Side.TheVariants.{Read, Write}

-- the verdict of an input
abbrev pub IsVerdict : List ℕ → Verdict → Type 0
IsVerdict input verdict.Yes = IsTrueClaim input
IsVerdict input verdict.No = ¬ (IsTrueClaim input) × ¬ (IsUnsplit input)
IsVerdict input verdict.Unsplit = IsUnsplit input

-- the line that is written of a verdict, or nothing
abbrev pub line_of : Verdict → List ℕ
line_of verdict.Yes = codes "yes\n"
line_of verdict.No = codes "no\n"
line_of verdict.Unsplit = []

-- the status of a run that has written it
abbrev pub status_of_verdict : Verdict → Status
status_of_verdict verdict.Yes = status.Done
status_of_verdict verdict.No = status.Differs
status_of_verdict verdict.Unsplit = status.Unsplit

-- what was written of a verdict, by the status: its line, or a prefix of that where a write failed; no write fails where there is no line
abbrev pub Tells : Verdict → Status → List ℕ → Type 0
Tells v (status.Fault Write) written = (v ≢ verdict.Unsplit) × IsFront written (line_of v)
Tells v answer written = (answer ≡ status_of_verdict v) × (written ≡ line_of v)

-- what was written with what was taken, by the status; nothing, where memory ran out
abbrev pub CheckOutcome : Option (List ℕ) → Bool → List ℕ → Status → List ℕ → Type 0
CheckOutcome left ended input (status.Fault Read) written = (written ≡ []) × (length input ≤ 2 ^ 20)
CheckOutcome left ended input status.TooLong written = (written ≡ []) × (length input ≡ 2 ^ 20 + 1)
CheckOutcome left ended input status.NoMemory written = written ≡ []
CheckOutcome left ended input answer written = TakesWhole left ended input × ((v : Verdict) × IsVerdict input v × Tells v answer written)

-- the bytes that were taken, the bytes that were written, and how they belong together
pub record Checks (left_before left_now : Option (List ℕ)) (ended : Bool) (held_before held_now : Option (List ℕ)) (answer : Status) : Type 0 where
  pub input : List ℕ
  pub written : List ℕ
  pub taken : Consumes left_before left_now input
  pub appended : Appends held_before held_now written
  pub outcome : CheckOutcome left_now ended input answer written
