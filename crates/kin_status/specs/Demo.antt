-- What the run of a generated script writes.
use Rattle.std.specs.Prelude.{◌≡◌, ℕ, ◌-◌, ◌≤◌, ◌^◌, min, List, ◌++◌, length, sum_by, None}
use Rattle.kin_motion.specs.Journal.{Block}
use Rattle.kin_script.specs.declared.script.Script.{Script}
use Rattle.kin_script.specs.Generated.{IsGenerated}
use Rattle.kin_script.specs.States.{State, start}
use Rattle.kin_script.specs.Text.{Text}
use Rattle.kin_status.specs.declared.status.Status.{Status}
use Rattle.kin_status.specs.declared.status.Status.TheVariants as status
use Rattle.kin_status.specs.declared.status.Side.TheVariants.{Read, Write}
use Rattle.kin_status.specs.Passed.{PassesInTurn}
use Rattle.kin_status.specs.Performed.{IsFrontOfEach}
use Rattle.kin_status.specs.Tallies.{tally_line}

-- how many failures blocks hold
abbrev pub failures_in : List Block → ℕ
failures_in bs = sum_by (λ b. length b.failures) bs

-- how many blocks were passed, and how many failures they held, as a line; both counts stop at 2^64 - 1
abbrev pub demo_line : List Block → List ℕ
demo_line bs = tally_line (record { moments = min (length bs) (2 ^ 64 - 1); failures = min (failures_in bs) (2 ^ 64 - 1) })

-- where the replay of a script begins
abbrev pub start_of : Script → State
start_of s = start s.size s.keeps s.journal

-- the text of a generated run: that of the script of the seed, with so many points, and then how much it passed
pub record IsDemoText (seed count : ℕ) (text : List ℕ) : Type 0 where
  pub script : Script
  pub generated : IsGenerated seed count script
  pub body : List ℕ
  pub replays : Text (start_of script) script.lines body None
  pub blocks : List Block
  pub passed : PassesInTurn (start_of script) script.lines blocks
  pub joined : text ≡ body ++ demo_line blocks

-- what a generated run has written, by its status
abbrev pub WritesDemo : ℕ → ℕ → Status → List ℕ → Type 0
WritesDemo seed count status.Done written = IsDemoText seed count written
WritesDemo seed count (status.Fault Write) written = IsFrontOfEach (IsDemoText seed count) written
WritesDemo seed count status.NoMemory written = IsFrontOfEach (IsDemoText seed count) written
WritesDemo seed count (status.Fault Read) written = ⊥
WritesDemo seed count (status.Command line refusal) written = ⊥
WritesDemo seed count (status.Script line) written = ⊥
WritesDemo seed count status.TooLong written = ⊥
WritesDemo seed count status.Words written = ⊥
WritesDemo seed count status.Differs written = ⊥
WritesDemo seed count status.Unsplit written = ⊥

-- each seed has a text with each count of 1..1024
abbrev pub DemoTextsExist : Type 0
DemoTextsExist = (seed count : ℕ) → 1 ≤ count → count ≤ 2 ^ 10 → (text : List ℕ) × IsDemoText seed count text

-- and no other
abbrev pub OneDemoText : Type 0
OneDemoText = (seed count : ℕ) (x y : List ℕ) → IsDemoText seed count x → IsDemoText seed count y → x ≡ y
