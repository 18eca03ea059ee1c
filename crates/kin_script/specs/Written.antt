-- A script and its lines, as a relation: which line says what, and which line is the first that isn't allowed at its place.
use Rattle.std.specs.Prelude.{◌≡◌, ◌⊎◌, ◌↔◌, ℕ, ◌+◌, Bool, false, List, [], ◌∷◌, ◌++◌, Some, length, IsTrue}
use Rattle.std.specs.List.{AllZip}
use Rattle.kin_motion.specs.declared.keep.Keep.{Keep}
use Rattle.kin_motion.specs.Keeps.{may_keep}
use Rattle.kin_script.specs.declared.command.Command.{Command}
use Rattle.kin_script.specs.declared.script.Script.{Script}
use Rattle.kin_script.specs.declared.line.HeaderLine.{HeaderLine}
use Rattle.kin_script.specs.declared.line.HeaderLine.TheVariants as header_line
use Rattle.kin_script.specs.Lines.{lines_of}
use Rattle.kin_script.specs.Left.{Numbered, numbered}
use Rattle.kin_script.specs.Commands.{command_of, size_of, header_line_of}
use Rattle.kin_script.specs.Grammar.{IsScript, IsFirstOutside}

-- the kept structures of the header, in the order of their lines
abbrev pub keeps_of : List HeaderLine → List Keep
keeps_of [] = []
keeps_of (header_line.Keep k ∷ ss) = k ∷ keeps_of ss
keeps_of (header_line.Journal on ∷ ss) = keeps_of ss

-- the journal lines of the header
abbrev pub journals_of : List HeaderLine → List Bool
journals_of [] = []
journals_of (header_line.Keep k ∷ ss) = journals_of ss
journals_of (header_line.Journal on ∷ ss) = on ∷ journals_of ss

-- at most one line says it, and without one it is off
abbrev pub HasJournalLine : List Bool → Bool → Type 0
HasJournalLine [] on = on ≡ false
HasJournalLine (b ∷ []) on = on ≡ b
HasJournalLine (b ∷ c ∷ bs) on = ⊥

-- a line of the header says this
abbrev pub SaysHeaderLine : Numbered → HeaderLine → Type 0
SaysHeaderLine l s = header_line_of l.1 ≡ Some s

-- a line after the header says this command
abbrev pub SaysCommand : ℕ → Numbered → ℕ × Command → Type 0
SaysCommand size l c = (l.0 ≡ c.0) × (command_of size l.1 ≡ Some c.1)

-- lines with words write a script: the size line, the header in any order, and then the commands
pub record IsWritten (lines : List Numbered) (s : Script) : Type 0 where
  pub first : Numbered
  pub header : List Numbered
  pub header_lines : List HeaderLine
  pub commands : List Numbered
  pub parts : lines ≡ first ∷ (header ++ commands)
  pub size : size_of first.1 ≡ Some s.size
  pub header_says : AllZip SaysHeaderLine header header_lines
  pub keeps : s.keeps ≡ keeps_of header_lines
  pub keepable : IsTrue (may_keep s.keeps)
  pub journal : HasJournalLine (journals_of header_lines) s.journal
  pub commands_say : AllZip (SaysCommand s.size) commands s.lines

-- a line of these that isn't allowed at its place, and has this number: the lines before it write a script, unless there are none, and with it they write none,
-- however they go on
pub record IsFirstBad (lines : List Numbered) (n : ℕ) : Type 0 where
  pub before : List Numbered
  pub bad : Numbered
  pub behind : List Numbered
  pub parts : lines ≡ before ++ bad ∷ behind
  pub number : bad.0 ≡ n
  pub good : (before ≡ []) ⊎ ((s : Script) × IsWritten before s)
  pub outside : (more : List Numbered) (s : Script) → ¬ (IsWritten (before ++ bad ∷ more) s)

-- the lines with words of a script's bytes
abbrev pub worded_lines : List ℕ → List Numbered
worded_lines bytes = numbered 1 (lines_of bytes)

-- bytes are a script where their lines write it
abbrev pub ScriptsAreWritten : Type 0
ScriptsAreWritten = (bytes : List ℕ) (s : Script) → IsScript bytes s ↔ IsWritten (worded_lines bytes) s

-- the first line outside is the first that isn't allowed at its place; without words it is the line after the last
abbrev pub FirstOutsideIsFirst : Type 0
FirstOutsideIsFirst = (bytes : List ℕ) (n : ℕ)
    → IsFirstOutside bytes n ↔ (((worded_lines bytes ≡ []) × (n ≡ 1 + length (lines_of bytes))) ⊎ IsFirstBad (worded_lines bytes) n)
